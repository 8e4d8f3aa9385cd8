use Rattle.std.proofs.Common.{◌≡◌, ◌+◌, ◌-◌, ◌≤◌, length, drop}
use Rattle.spool.specs.Reading.{frames_in}
use Rattle.shipping.specs.Archives.{took_all}
use Rattle.shipping.proofs.unload.unload_records.Given as goal

-- what is left to read gives what all gives, and each record has a byte
abbrev pub invariant-loop-frame : goal.invariant-loop-frame
invariant-loop-frame l =
    (l.at ≤ length l.bytes)
    × (l.count ≤ l.at)
    × (l.count + length (frames_in (drop l.at l.bytes)) ≡ length (frames_in l.bytes))
    × (took_all (frames_in (drop l.at l.bytes)) l.archive ≡ took_all (frames_in l.bytes) l.initial.archive)

abbrev pub decreases-loop-frame : goal.decreases-loop-frame
decreases-loop-frame l = length l.bytes - l.at
