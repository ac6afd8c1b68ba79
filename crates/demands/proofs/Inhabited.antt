-- What is accepted is inhabited: two of 01's starred messages as `Accepted`, by demand 2 and K's goodness. So the demands speak of
-- something.
use Prim.Native.Nat.{ℕ, ◌≤◌, ◌<◌}
use native.Mathlib.Omega.{arith}
use mathlib.Core.Path.{◌≡◌, refl, sym, ◌∙◌, subst}
use mathlib.Core.List.{List, [], ◌∷◌, ◌++◌}
use lib.ListN.{length}
use Rattle.guide.specs.meaning.Guide.{guide_of}
use Rattle.book_laws.proofs.Bytes.{k}
use Rattle.book_laws.proofs.Inhabited.{k_is_good}
use Rattle.framing.specs.meaning.Limits.{most_bytes, most_segments}
use Rattle.reading.specs.meaning.Service.{standard, is_data, is_tag_byte}
use Rattle.reading.specs.method.Outcome.{Segments}
use Rattle.reading.specs.method.Machine.{kind_of, scan_on, scanned}
use Rattle.reading.proofs.Scanning.{segments_is}
use Rattle.reading_laws.proofs.Accepting.{accepts}
use Rattle.reading_laws.proofs.Services.{good_standard}
use Rattle.framing.specs.meaning.Record.{answer}
use Rattle.framing.specs.meaning.Table.{HasRoom}
use Rattle.rules.specs.meaning.Conditions.{told}
use Rattle.judging.specs.method.Table.{judged}
use Rattle.demands.specs.meaning.Table.{FitConditions}
use Rattle.demands.specs.meaning.Demands.{Accepted, WithinLimits}
use Rattle.demands.proofs.Stars.{H, LIN, QTY, UNT, eight, stars}
use Rattle.demands.proofs.Demands.{certain_standard}

one_condition : (c : ℕ) → c < 2 → FitConditions (guide_of k) (c ∷ [])
unfolding k guide_of
one_condition c h = record { as_many = refl; bytes = (omega arith, tt) }

-- a message that K accepts, of so many segments
module _ (bs : List ℕ) (c n : ℕ) (known : c < 2) (judged-so : judged standard bs k (c ∷ []) eight ≡ answer 0 n) (counted : scanned standard bs ≡ Segments n) (few : n ≤ 8)
    (short : length bs ≤ most_bytes) where
  limits : WithinLimits standard bs eight
  limits = record { bytes = short; segments = λ w. let same = segments_is (sym counted ∙ accepts standard good_standard bs w) in subst Within same (omega arith, record { starts = few; homes = few; parents = few }) }
    where
      Within : ℕ → Type 0
      Within m = (m ≤ most_segments) × HasRoom eight m

  accepted_so : Accepted standard bs k (told (c ∷ [])) n
  accepted_so = ((certain_standard.demand_2 bs k (c ∷ []) eight).accepted k_is_good (one_condition c known) (known, tt) limits n).0 judged-so

-- H UNT+4+1', whatever the condition is
pub head_accepted : Accepted standard (H ++ UNT 52 49) k (told (0 ∷ [])) 4
unfolding is_data is_tag_byte kind_of scan_on
head_accepted = accepted_so (H ++ UNT 52 49) 0 4 (omega arith) stars.0 refl (omega arith) (omega arith)

-- H LIN+1' QTY+145:5' UNT+6+1', condition 1 being true
pub position_accepted : Accepted standard (H ++ LIN 49 ++ QTY ++ UNT 54 49) k (told (1 ∷ [])) 6
unfolding is_data is_tag_byte kind_of scan_on
position_accepted = accepted_so (H ++ LIN 49 ++ QTY ++ UNT 54 49) 1 6 (omega arith) stars.1.1.1.1.1.1.0 refl (omega arith) (omega arith)
