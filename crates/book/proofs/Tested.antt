-- A book is good exactly when its rules, run as tests, say so.
use Prim.Native.Nat.{ℕ}
use native.Mathlib.Omega.{arith}
use mathlib.Core.Path.{◌≡◌, refl}
use mathlib.Core.List.{List}
use mathlib.Core.Bool.{Bool, true, false, false≢true, ◌&&◌}
use mathlib.Core.Logic.{◌↔◌}
use Rattle.guide.specs.meaning.Guide.{guide_of}
use Rattle.book.specs.meaning.GoodBook.{GoodBook, Judged}
use Rattle.book.specs.method.Run.{run}
use Rattle.book.specs.method.Each.{header_rule, records_rule, framed_rule, is_good}
use Rattle.book.proofs.Checking.{header_bad, records_bad, frame_bad, runs_good}

module _ (book : List ℕ) where
  pub good_exactly : (is_good book ≡ true) ↔ GoodBook book
  good_exactly = (λ e. to (run (header_rule book)) (run (records_rule (guide_of book))) (run (framed_rule (guide_of book))) refl refl refl e, from)
    where
      to : (x y z : Bool) → run (header_rule book) ≡ x → run (records_rule (guide_of book)) ≡ y → run (framed_rule (guide_of book)) ≡ z → (x && (y && z)) ≡ true → GoodBook book
      to true true true h r f e = runs_good book h r f
      to true true false h r f e = absurd (false≢true e)
      to true false z h r f e = absurd (false≢true e)
      to false y z h r f e = absurd (false≢true e)

      no : {A : Type 0} → GoodBook book → Judged book 1 → A
      no g j = let z = j.good g in absurd (omega arith)

      from : GoodBook book → is_good book ≡ true
      from g = go (run (header_rule book)) (run (records_rule (guide_of book))) (run (framed_rule (guide_of book))) refl refl refl
        where
          go : (x y z : Bool) → run (header_rule book) ≡ x → run (records_rule (guide_of book)) ≡ y → run (framed_rule (guide_of book)) ≡ z → (x && (y && z)) ≡ true
          go true true true h r f = refl
          go true true false h r f = no g (frame_bad book f)
          go true false z h r f = no g (records_bad book r)
          go false y z h r f = no g (header_bad book h)
