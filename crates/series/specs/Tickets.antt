-- A ticket as a call shows it.
use Rattle.rules.specs.Calls.{Ticket}
use Rattle.series.specs.declared.ticket.Ticket as code

abbrev pub shown : code.Ticket → Ticket
shown t = record { series = t.series; customer = t.customer; discharged = t.discharged }
