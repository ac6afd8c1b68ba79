-- What does not depend on what is lent: how far a run comes, but for what is lacking, and the starts that a piece stores.
use Prim.Native.Nat.{ℕ, ◌+◌}
use native.Mathlib.Omega.{arith}
use mathlib.Core.Path.{◌≡◌, refl, sym, ap, ◌∙◌}
use mathlib.Core.List.{List, [], ◌∷◌, ◌++◌}
use mathlib.Core.Bool.{Bool, true, false, cond, ◌&&◌}
use lib.Dec.{ltb}
use lib.ListN.{length, set, take, drop, replicate}
use Rattle.slices.specs.method.Entries.{entry}
use Rattle.reading.specs.method.Machine.{stepped, is_start, is_dead}
use Rattle.reading.specs.declared.service.Service.{Service}
use Rattle.framing.specs.meaning.Limits.{most_bytes, most_segments}
use Rattle.pieces.specs.declared.progress.Progress.{Progress}
use Rattle.pieces.specs.method.Progress.{Held, held, held_after, progress_by, starts_by, one_more, segment_ended, failed_at, gone_on}
use Rattle.pieces_laws.specs.laws.Run.{run, ran_by}

abbrev unlacking : Progress → Progress
unlacking p = record { ended = p.ended; state = p.state; bytes = p.bytes; bad = p.bad; segments = p.segments; start = p.start; lacking = false }

module _ (s : Service) where
  by_alike : (p : Progress) (lent : ℕ) (b : ℕ) → unlacking (progress_by s p lent b) ≡ unlacking (progress_by s (unlacking p) 0 b)
  by_alike p lent b = go (ltb p.bytes most_bytes) (is_start (stepped s p.state b)) (is_dead (stepped s p.state b))
    where
      go : (t u v : Bool)
          → unlacking (cond t (cond u (segment_ended p lent (p.bytes + 1)) (cond v (failed_at p p.bytes (p.bytes + 1)) (gone_on p (stepped s p.state b) (p.bytes + 1)))) (gone_on p p.state (one_more most_bytes p.bytes)))
          ≡ unlacking (cond t (cond u (segment_ended (unlacking p) 0 (p.bytes + 1)) (cond v (failed_at (unlacking p) p.bytes (p.bytes + 1)) (gone_on (unlacking p) (stepped s p.state b) (p.bytes + 1)))) (gone_on (unlacking p) p.state (one_more most_bytes p.bytes)))
      go true true v = refl
      go true false true = refl
      go true false false = refl
      go false u v = refl

  alike_on : (p q : Progress) (lent room : ℕ) (b : ℕ) → unlacking p ≡ unlacking q → unlacking (progress_by s p lent b) ≡ unlacking (progress_by s q room b)
  alike_on p q lent room b e = by_alike p lent b ∙ ap (λ (x : Progress). unlacking (progress_by s x 0 b)) e ∙ sym (by_alike q room b)

  -- runs that differ in what is lent come to the same, but for what was lacking
  pub runs_alike : (x y : Held) (bs ls ks : List ℕ) → unlacking x.progress ≡ unlacking y.progress → length bs ≡ length ls → length bs ≡ length ks
      → unlacking (run s x bs ls).progress ≡ unlacking (run s y bs ks).progress
  unfolding run
  runs_alike x y [] ls ks e f g = e
  runs_alike x y (b ∷ bs) [] ks e f g = absurd (omega arith)
  runs_alike x y (b ∷ bs) (l ∷ ls) [] e f g = absurd (omega arith)
  runs_alike x y (b ∷ bs) (l ∷ ls) (k ∷ ks) e f g =
      runs_alike (ran_by s x b l) (ran_by s y b k) bs ls ks (alike_on x.progress y.progress l k b e) (omega arith) (omega arith)

  -- and to exactly the same, where the same is lent of any memory
  pub runs_same : (p : Progress) (xs ys bs ls : List ℕ) → (run s (held p xs) bs ls).progress ≡ (run s (held p ys) bs ls).progress
  unfolding run
  runs_same p xs ys [] ls = refl
  runs_same p xs ys (b ∷ bs) [] = refl
  runs_same p xs ys (b ∷ bs) (l ∷ ls) =
      runs_same (progress_by s p l b) (starts_by s p (take l xs) b ++ drop l xs) (starts_by s p (take l ys) b ++ drop l ys) bs ls

  -- a piece stores the same starts, whatever was lacking
  pub stores_alike : (p q : Progress) (table bs : List ℕ) → unlacking p ≡ unlacking q → (held_after s (held p table) bs).starts ≡ (held_after s (held q table) bs).starts
  unfolding held_after
  stores_alike p q table [] e = refl
  stores_alike p q table (b ∷ bs) e =
      stores_alike (progress_by s p (length table) b) (progress_by s q (length table) b) (starts_by s p table b) bs (alike_on p q (length table) (length table) b e)
      ∙ ap (λ (t : List ℕ). (held_after s (held (progress_by s q (length table) b) t) bs).starts) (ap (λ (x : Progress). starts_by s x table b) e)

  -- where nothing is lent, nothing is stored
  nothing_stored : (p : Progress) (b : ℕ) → starts_by s p [] b ≡ []
  nothing_stored p b = go (ltb p.bytes most_bytes && is_start (stepped s p.state b)) (ltb p.segments most_segments)
    where
      go : (t u : Bool) → cond t (cond u (set [] p.segments (entry p.start)) []) [] ≡ []
      go true true = refl
      go true false = refl
      go false u = refl

  pub unlent : (p : Progress) (table bs : List ℕ) → (run s (held p table) bs (replicate (length bs) 0)).starts ≡ table
  unfolding run
  unlent p table [] = refl
  unlent p table (b ∷ bs) =
      unlent (progress_by s p 0 b) (starts_by s p [] b ++ table) bs ∙ ap (λ (t : List ℕ). t ++ table) (nothing_stored p b)
