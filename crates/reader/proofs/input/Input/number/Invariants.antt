use Rattle.std.proofs.Common.{◌≡◌, ◌^◌, ◌<◌}
use Rattle.reader.specs.Places.{number}
use Rattle.reader.proofs.input.Input.number.Given as goal

abbrev pub invariant-loop-byte : goal.invariant-loop-byte
invariant-loop-byte l =
    record {
      value : l.x ≡ number l.byte-index l.byte-items 0;
      fits : l.x < 256 ^ l.byte-index;
    }
