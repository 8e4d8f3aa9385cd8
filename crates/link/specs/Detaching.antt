-- The peer's detach (Part 2, 2.6.4 to 2.6.6).
use Rattle.std.specs.Prelude.{◌+◌, Bool, true, false, cond, ◌||◌, List, [], ◌∷◌, ◌++◌, length, map, is_some, Some, None, Ok, Err, Option, Result, nat_lt}
use Rattle.std.specs.Option.{unwrap_or}
use Rattle.amqp.specs.declared.condition.AmqpError.{AmqpError}
use Rattle.amqp.specs.declared.error.ApplyRemoteDetachError.{ApplyRemoteDetachError}
use Rattle.amqp.specs.declared.error.ApplyRemoteDetachError.TheVariants as fault
use Rattle.unsettled.specs.Tables.{look}
use Rattle.link.specs.declared.delivery.Outcome.{Outcome}
use Rattle.link.specs.declared.delivery.Outcome.TheVariants.{RemoteClosed, RemoteClosedWithError}
use Rattle.link.specs.Attaching.{stuck}
use Rattle.link.specs.Resuming.{listed}
use Rattle.link.specs.Rows.{row, first}
use Rattle.link.specs.States.{after_detach}
use Rattle.link.specs.Turns.{Turn, End, moved}
use Rattle.link.specs.Views.{View, Held, Entry, empty}

-- what goes back into the table: the resume list's deliveries as they stood there, then the resend list's; settlings are gone
abbrev pub put_back : Held → List Entry
put_back h = listed h.resume ++ h.resend

abbrev pub overfull : View → Bool
overfull v = nat_lt v.rooms.table (length v.held.table + length (put_back v.held))

-- a tag stands in the table, or among those that went back before it
abbrev pub clash : List Entry → List Entry → Bool
clash [] xs = false
clash (e ∷ es) xs = is_some (look e.tag xs) || clash es (xs ++ e ∷ [])

-- 2, and unclosed 11 and 13
abbrev pub detach_refusal : View → (closed : Bool) → Option ApplyRemoteDetachError
detach_refusal v closed =
    first
    (stuck (after_detach v.state closed) fault.IllegalState
    ∷ cond closed [] (row (overfull v) fault.TableFull ∷ row (clash (put_back v.held) v.held.table) fault.TagInTable ∷ []))

-- a detach that closes ends all deliveries, any other brings them back into the table
abbrev pub detached_held : (closed : Bool) → Held → Held
detached_held true h = empty
detached_held false h = record { table = h.table ++ put_back h; resume = []; resend = [] }

abbrev pub closed_by : Option AmqpError → Outcome
closed_by None = RemoteClosed
closed_by (Some e) = RemoteClosedWithError e

abbrev pub all_end : Outcome → List Entry → List End
all_end o es = map (λ e. record { number = e.entry.ticket; outcome = o }) es

abbrev pub detached_ends : (closed : Bool) → Option AmqpError → Held → List End
detached_ends true error h = all_end (closed_by error) (h.table ++ put_back h)
detached_ends false error h = []

-- the output handle is gone
abbrev pub detached : View → (closed : Bool) → Option AmqpError → Turn
detached v closed error =
    moved v (unwrap_or (after_detach v.state closed) v.state) None v.input v.settings (detached_held closed v.held) (detached_ends closed error v.held)

-- the error that the detach brought
abbrev pub told_by : (closed : Bool) → Option AmqpError → Result (Unit {0}) ApplyRemoteDetachError
told_by closed None = Ok tt
told_by true (Some e) = Err (fault.RemoteClosedWithError e)
told_by false (Some e) = Err (fault.RemoteDetachedWithError e)

abbrev pub refused_or : {X E : Type 0} → Option E → Result X E → Result X E
refused_or (Some e) r = Err e
refused_or None r = r

abbrev pub detach_answer : View → (closed : Bool) → Option AmqpError → Result (Unit {0}) ApplyRemoteDetachError
detach_answer v closed error = refused_or (detach_refusal v closed) (told_by closed error)
