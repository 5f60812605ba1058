-- What a series holds, in the words of the rules.
use Rattle.order_table.specs.Orders.{orders, next_number}
use Rattle.rules.specs.Series.{State}
use Rattle.series.specs.Phases.{opened, running}
use Rattle.series.specs.declared.series.Series.{Series}

abbrev pub state : {R : Type 0} → Series R → State
state s = record {
  number = s.number;
  close = s.close.price.value;
  trading = opened s.phase;
  time = s.time.count;
  next = next_number s.table;
  away = s.away.quotes;
  orders = orders s.table;
  auction = running s.phase;
}
