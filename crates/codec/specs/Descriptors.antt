-- The codes of described lists (Part 2, 2.7.5, 2.7.6 and 2.8.14; Part 3, 3.4).
use Rattle.std.specs.Prelude.{ℕ}
use Rattle.codec.specs.declared.descriptor.Descriptor.{Descriptor}
use Rattle.codec.specs.declared.descriptor.Descriptor.TheVariants.{Transfer, Disposition, Error, Received, Accepted, Rejected, Released, Modified}

abbrev pub descriptor_code : Descriptor → ℕ
descriptor_code Transfer = 0x14
descriptor_code Disposition = 0x15
descriptor_code Error = 0x1d
descriptor_code Received = 0x23
descriptor_code Accepted = 0x24
descriptor_code Rejected = 0x25
descriptor_code Released = 0x26
descriptor_code Modified = 0x27
