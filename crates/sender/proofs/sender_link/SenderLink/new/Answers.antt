use Rattle.std.proofs.Common.{length, rules, arith}
use Rattle.runs.proofs.Runs.{begun}
use Rattle.sender.specs.Views.{rooms_of}
use Rattle.sender.proofs.sender_link.SenderLink.new.Goals as goal

pub returns-clause-no_delivery_lost_or_ended_twice : goal.returns-clause-no_delivery_lost_or_ended_twice
returns-clause-no_delivery_lost_or_ended_twice c =
    let a = c.args in
    let rooms = rooms_of (length a.table.now) (length a.resume.now) (length a.resend.now) in
    begun (record { settings = a.settings; initial = a.initial_delivery_count; rooms = rooms; seats = length a.seats.now; counted = omega arith }) _
    (search rules) (omega arith)
