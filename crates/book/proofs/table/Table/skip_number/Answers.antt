use Rattle.std.proofs.Common.{◌+◌, arith}
use Rattle.book.specs.Orders.{orders}
use Rattle.book.proofs.Records.{rises_wider}
use Rattle.book.proofs.table.Table.skip_number.Goals as goal

pub invariant_of-self : goal.invariant_of-self
invariant_of-self c =
    let t = c.args.self.now in
    record {
      long = t.long;
      few = t.few;
      sound = t.sound;
      free = t.free;
      rising = rises_wider 0 0 (orders t) (t.next + 1) t.next (omega arith) (omega arith) t.rising;
      books = t.books;
      rivals = t.rivals;
      customer = t.customer;
      numbers = omega arith;
    }
