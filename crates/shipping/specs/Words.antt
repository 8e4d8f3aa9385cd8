-- The words of the command line, and what they are read as.
use Rattle.std.specs.Prelude.{◌≡◌, ℕ, ◌⊎◌, Bool, true, false, nat_le, List, [], ◌∷◌, ◌++◌, map, Some, None, vec_items, codes, Option, Result, ◌≢◌, MatchResult}
use Rattle.std.specs.List.{list_any}
use Rattle.std.specs.Option.{unwrap_or}
use Rattle.std.specs.Str.{bytes_eq}
use Rattle.shipping.specs.declared.options.Key.{Key}
use Rattle.shipping.specs.declared.options.Key.TheVariants.{Frame, Credit, Break}
use Rattle.shipping.specs.declared.options.Options.{Options}
use Rattle.shipping.specs.declared.options.Parcel.{Parcel}
use Rattle.shipping.specs.declared.options.UnknownKey.{UnknownKey}
use Rattle.shipping.specs.declared.options.UsageError.{UsageError}
use Rattle.shipping.specs.declared.options.UsageError.TheVariants.{NoFiles, UnknownOption, Twice, NoNumber, BadNumber, NotAfter, NoShelf, UnknownShelf, NoMemory}
use Rattle.shipping.specs.declared.shelf.Shelf.{Shelf}
use Rattle.shipping.specs.Numbers.{Reads}
use Rattle.shipping.specs.Shelves.{name_of}

-- a file, and the shelf that it is for
pub record Wanted : Type 0 where
  pub shelf : Shelf
  pub path : List ℕ

abbrev pub wanted : Parcel → Wanted
wanted p = record { shelf = p.shelf; path = p.path.now }

-- SHELF=FILE, where 61 is the sign between them
abbrev pub parcel_text : Wanted → List ℕ
parcel_text p = name_of p.shelf ++ (61 ∷ p.path)

abbrev pub key_text : Key → List ℕ
key_text Frame = codes "--frame"
key_text Credit = codes "--credit"
key_text Break = codes "--break"

-- a word that reads as a key is what is printed of it, and any other is no key's
abbrev pub ReadsKey : List ℕ → Result Key UnknownKey → Type 0
ReadsKey word r = MatchResult r (λ k. word ≡ key_text k) (λ _. (k : Key) → word ≢ key_text k)

-- what is printed where the words cannot be read
abbrev pub usage_text : UsageError → List ℕ
usage_text NoFiles = codes "no files are named"
usage_text (UnknownOption word) = word.now ++ codes " is no option"
usage_text (Twice k) = key_text k ++ codes " is given twice"
usage_text (NoNumber k) = key_text k ++ codes " has no number after it"
usage_text (BadNumber k word) = key_text k ++ (codes " " ++ (word.now ++ codes ": no decimal number up to 4294967295"))
usage_text (NotAfter word) = codes "--break " ++ (word.now ++ codes " is not after the break before it")
usage_text (NoShelf word) = word.now ++ codes " is not SHELF=FILE"
usage_text (UnknownShelf name) = name.now ++ codes " is no shelf"
usage_text NoMemory = codes "not enough memory"

-- the file of a spool where the words begin with one, and the words after it
abbrev pub spool_with : (spooled : Bool) → (file word : List ℕ) → List (List ℕ) → Option (List ℕ) × List (List ℕ)
spool_with true file word ws = (Some file, ws)
spool_with false file word ws = (None, word ∷ file ∷ ws)

abbrev pub spool_of : List (List ℕ) → Option (List ℕ) × List (List ℕ)
spool_of [] = (None, [])
spool_of (word ∷ []) = (None, word ∷ [])
spool_of (word ∷ file ∷ ws) = spool_with (bytes_eq word (codes "--spool")) file word ws

-- what has been read: the numbers of the options, the breaks in their order, the option whose number comes next, and the files
pub record SoFar : Type 0 where
  pub frame : Option ℕ
  pub credit : Option ℕ
  pub breaks : List ℕ
  pub awaits : Option Key
  pub parcels : List Wanted

abbrev pub unread : SoFar
unread = record { frame = None; credit = None; breaks = []; awaits = None; parcels = [] }

-- the number that an option already has: a break never does, as there may be several
abbrev pub number_of : Key → SoFar → Option ℕ
number_of Frame s = s.frame
number_of Credit s = s.credit
number_of Break s = None

abbrev pub numbered : Key → ℕ → SoFar → SoFar
numbered Frame n s = record { frame = Some n; credit = s.credit; breaks = s.breaks; awaits = None; parcels = s.parcels }
numbered Credit n s = record { frame = s.frame; credit = Some n; breaks = s.breaks; awaits = None; parcels = s.parcels }
numbered Break n s = record { frame = s.frame; credit = s.credit; breaks = s.breaks ++ n ∷ []; awaits = None; parcels = s.parcels }

-- some break comes no earlier than after so many frames
abbrev pub reached : (n : ℕ) (breaks : List ℕ) → Bool
reached n breaks = list_any (λ b. nat_le n b) breaks

-- a break that does not come after all before it
abbrev pub early : Key → ℕ → SoFar → Bool
early Frame n s = false
early Credit n s = false
early Break n s = reached n s.breaks

abbrev pub awaiting : Key → SoFar → SoFar
awaiting k s = record { frame = s.frame; credit = s.credit; breaks = s.breaks; awaits = Some k; parcels = s.parcels }

abbrev pub with_parcel : Wanted → SoFar → SoFar
with_parcel p s = record { frame = s.frame; credit = s.credit; breaks = s.breaks; awaits = s.awaits; parcels = s.parcels ++ p ∷ [] }

-- an option that has no number yet
abbrev pub Begins : List ℕ → SoFar → SoFar → Type 0
Begins word s t = (k : Key) × (word ≡ key_text k) × (number_of k s ≡ None) × (t ≡ awaiting k s)

abbrev pub NamesFile : List ℕ → SoFar → SoFar → Type 0
NamesFile word s t = (p : Wanted) × (word ≡ parcel_text p) × (t ≡ with_parcel p s)

-- a word is the number that is awaited, or else an option or a file
abbrev pub Takes : Option Key → List ℕ → SoFar → SoFar → Type 0
Takes (Some k) word s t = (n : ℕ) × Reads word (Some n) × (early k n s ≡ false) × (t ≡ numbered k n s)
Takes None word s t = Begins word s t ⊎ NamesFile word s t

-- these words, one after the other
abbrev pub TakesAll : List (List ℕ) → SoFar → SoFar → Type 0
TakesAll [] s t = t ≡ s
TakesAll (w ∷ ws) s t = (u : SoFar) × Takes s.awaits w s u × TakesAll ws u t

-- some word cannot be taken, or after the last one a number is awaited or there is no file
abbrev pub Stops : List (List ℕ) → SoFar → Type 0
Stops [] s = s.awaits ≡ None → s.parcels ≡ []
Stops (w ∷ ws) s = ((t : SoFar) → Takes s.awaits w s t → ⊥) ⊎ ((u : SoFar) × Takes s.awaits w s u × Stops ws u)

-- no number is awaited, and there is a file: a frame has 512 bytes and the credit is 100 where nothing is said
pub record Meant (s : SoFar) (o : Options) : Type 0 where
  pub whole : s.awaits ≡ None
  pub frame : o.frame ≡ unwrap_or s.frame 512
  pub credit : o.credit ≡ unwrap_or s.credit 100
  pub breaks : vec_items o.breaks ≡ s.breaks
  pub parcels : map wanted (vec_items o.parcels) ≡ s.parcels
  pub some : s.parcels ≡ [] → ⊥
