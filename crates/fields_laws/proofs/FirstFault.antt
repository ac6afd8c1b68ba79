-- Law first_fault_lem: the pass over a message answers the first segment with a fault, by induction over the segments. With the law
-- field-fault this is 01's number 12.
use Prim.Native.Nat.{ℕ, zero, suc, ◌<◌}
use native.Mathlib.Omega.{arith}
use mathlib.Core.Path.{◌≡◌, refl, ◌∙◌}
use mathlib.Core.List.{List, [], ◌∷◌}
use lib.ListN.{length}
use Rattle.guide.specs.meaning.Guide.{Guide}
use Rattle.reading.specs.declared.service.Service.{Service}
use Rattle.fields.specs.method.Testing.{fault_at, then_first, first_fault}
use Rattle.fields_laws.specs.laws.FirstFault.{CleanAt, FirstMeans}
use Rattle.std.specs.Prelude.{Result, Ok, Err}
use Rattle.fields.specs.declared.fault.Fault.{Fault}
use Rattle.fields.specs.declared.passes.FirstFault.{FirstFault}

module _ (s : Service) (g : Guide) (bs : List ℕ) where
  -- a segment without a fault, and what is said of those behind it
  module _ (k at line : ℕ) (starts homes : List ℕ) (clean : fault_at s g bs at line ≡ Ok tt) where
    none_at : (n : ℕ) → ((j : ℕ) → j < n → CleanAt s g bs starts homes j) → (j : ℕ) → j < suc n → CleanAt s g bs (at ∷ starts) (line ∷ homes) j
    none_at n h zero l = clean
    none_at n h (suc j) l = h j (omega arith)

    all_clean : ((j : ℕ) → j < length starts → j < length homes → CleanAt s g bs starts homes j)
        → (j : ℕ) → j < suc (length starts) → j < suc (length homes) → CleanAt s g bs (at ∷ starts) (line ∷ homes) j
    all_clean h zero l m = clean
    all_clean h (suc j) l m = h j (omega arith) (omega arith)

    one_more_lem : (r : Result (Unit {0}) FirstFault) → FirstMeans s g bs (suc k) starts homes r → FirstMeans s g bs k (at ∷ starts) (line ∷ homes) r
    one_more_lem (Err x) f =
        record {
          before = suc f.before;
          counted = f.counted ∙ omega arith;
          started = let n = f.started in omega arith;
          placed = let n = f.placed in omega arith;
          home = f.home;
          there = f.there;
          none_before = none_at f.before f.none_before;
        }
    one_more_lem (Ok _) h = all_clean h

  pub first_fault_lem : (k : ℕ) (starts homes : List ℕ) → FirstMeans s g bs k starts homes (first_fault s g bs k starts homes)
  unfolding first_fault
  first_fault_lem k [] homes = λ j l m. absurd (omega arith)
  first_fault_lem k (at ∷ starts) [] = λ j l m. absurd (omega arith)
  first_fault_lem k (at ∷ starts) (line ∷ homes) = go (fault_at s g bs at line) refl (first_fault_lem (suc k) starts homes)
    where
      go : (x : Result (Unit {0}) Fault) → fault_at s g bs at line ≡ x → FirstMeans s g bs (suc k) starts homes (first_fault s g bs (suc k) starts homes)
          → FirstMeans s g bs k (at ∷ starts) (line ∷ homes) (then_first k line x (first_fault s g bs (suc k) starts homes))
      go (Err y) i h =
          record {
            before = 0;
            counted = omega arith;
            started = omega arith;
            placed = omega arith;
            home = refl;
            there = i;
            none_before = λ j l. absurd (omega arith);
          }
      go (Ok _) i h = one_more_lem k at line starts homes i (first_fault s g bs (suc k) starts homes) h
