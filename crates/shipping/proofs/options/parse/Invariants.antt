use Rattle.std.proofs.Common.{map, take, string_bytes}
use Rattle.shipping.specs.Words.{unread, TakesAll}
use Rattle.shipping.proofs.options.parse.Given as goal

-- the words before the index have been read
abbrev pub invariant-loop-word : goal.invariant-loop-word
invariant-loop-word l = TakesAll (take l.word-index (map string_bytes l.words)) unread l.reading
