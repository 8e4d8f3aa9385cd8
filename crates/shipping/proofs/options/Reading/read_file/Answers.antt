use Rattle.std.proofs.Common.{List, map, vec_items, ap, ◌∙◌}
use Rattle.std.proofs.lemmas.List.{map_push}
use Rattle.shipping.specs.Words.{Wanted, wanted, SoFar, with_parcel}
use Rattle.shipping.proofs.options.Reading.read_file.Goals as goal

pub returns : goal.returns
returns c =
    let s = c.self.inside in
    let p = c.in_ok-read_parcel.field-0 in (
      wanted p,
      c.in_ok-read_parcel.ensures,
      ap (λ (ps : List Wanted). record { frame = s.frame; credit = s.credit; breaks = vec_items s.breaks; awaits = s.awaits; parcels = ps })
          (ap (map wanted) c.in_ok-push.ensures.items ∙ map_push wanted (vec_items s.parcels) p)
          ∙ ap (λ (t : SoFar). with_parcel (wanted p) t) c.self.view_is,
    )
