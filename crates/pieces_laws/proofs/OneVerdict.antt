-- What the table says of a text is one verdict.
use Prim.Native.Nat.{ℕ, ◌<◌}
use mathlib.Core.Path.{◌≡◌, sym, ap, ◌∙◌, subst}
use mathlib.Core.List.{List}
use mathlib.Core.Logic.{◌⊎◌, inl, inr}
use lib.ListN.{length}
use Rattle.reading.specs.meaning.Service.{GoodService}
use Rattle.reading.specs.meaning.Message.{Message}
use Rattle.reading.specs.meaning.WellFormed.{WellFormed, FirstBad}
use Rattle.reading.specs.declared.service.Service.{Service}
use Rattle.reading_laws.proofs.FirstBad.{one_first_bad}
use Rattle.reading_laws.proofs.OneReading.{one_reading}
use Rattle.framing.specs.meaning.Record.{answer}
use Rattle.framing.specs.meaning.Table.{Unless}
use Rattle.pieces.specs.meaning.Table.{CountSays}
use Rattle.framing.specs.declared.verdict.Verdict.{Verdict}
use Rattle.pieces.specs.meaning.Starts.{FoundEntry}
use Rattle.pieces.specs.meaning.Pieces.{TextSays}

-- a stage whose rest says one verdict says one
one_unless : {Met R Q : Type 0} {x v w : Verdict} → (R → Q → v ≡ w) → Unless Met (v ≡ x) R → Unless Met (w ≡ x) Q → v ≡ w
one_unless one (inl (n, e)) (inl (m, f)) = e ∙ sym f
one_unless one (inl (n, e)) (inr (h, q)) = absurd (n h)
one_unless one (inr (h, r)) (inl (m, f)) = absurd (m h)
one_unless one (inr (h, r)) (inr (k, q)) = one r q

module _ (s : Service) (lents : List ℕ) where
  -- number 6 asks this, and 0 tells the segments
  abbrev pub Found : Message → Type 0
  Found m = (k : ℕ) → k < length m → FoundEntry s m lents k

  -- numbers 5 and 6
  abbrev pub Counted : Message → Verdict → Type 0
  Counted = CountSays Found (λ m v. v ≡ answer 0 (length m))

  -- number 4 and those
  abbrev pub Scanned : List ℕ → Verdict → Type 0
  Scanned text v = ((k : ℕ) × FirstBad s text k × (v ≡ answer 4 k)) ⊎ ((w : WellFormed s text) × Counted w.message v)

module _ (s : Service) (good : GoodService s) (text lents : List ℕ) (v w : Verdict) where
  one_count : (m : Message) → Counted s lents m v → Counted s lents m w → v ≡ w
  one_count m = one_unless (one_unless (λ e f. e ∙ sym f))

  one_scan : Scanned s lents text v → Scanned s lents text w → v ≡ w
  one_scan (inl (j, a, e)) (inl (k, b, f)) = e ∙ ap (answer 4) (one_first_bad s good text j k a b) ∙ sym f
  one_scan (inl (j, a, e)) (inr (n, b)) = absurd (a.ill_formed n)
  one_scan (inr (m, a)) (inl (k, b, f)) = absurd (b.ill_formed m)
  one_scan (inr (m, a)) (inr (n, b)) = one_count n.message (subst (λ (x : Message). Counted s lents x v) (one_reading s good text m n) a) b

  pub one_says : TextSays s text lents v → TextSays s text lents w → v ≡ w
  one_says = one_unless one_scan
