-- How many places an index has.
use Rattle.std.proofs.Common.{◌≡◌, length}
use Rattle.unsettled.specs.declared.index.Index.{Index}
use Rattle.unsettled.specs.Indexes.{keys_of}
use Rattle.unsettled.specs.Threads.{Threaded}

pub keys_len : (i : Index) → length (keys_of i) ≡ 1024
unfolding Threaded
keys_len i = i.threaded.keys_len
