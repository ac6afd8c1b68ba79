-- The steps of the pass over a message's segments: each says what one segment makes of the test of all that are left.
use Prim.Native.Nat.{ℕ, ◌+◌, ◌≤◌, ◌<◌}
use native.Mathlib.Omega.{arith}
use native.Mathlib.Numerals.{add-one}
use mathlib.Core.Path.{◌≡◌, refl, sym, ap, ap₂, ◌∙◌}
use mathlib.Core.List.{List, [], ◌∷◌}
use lib.ListN.{length, get_or, take, drop, drop_of_length-le, length-take}
use lib.Seq.{drop-cons, get_or-take}
use Rattle.guide.specs.meaning.Guide.{Guide}
use Rattle.reading.specs.declared.service.Service.{Service}
use Rattle.fields.specs.method.Testing.{fault_at, first_at, then_first, first_fault}
use Rattle.fields.specs.declared.fault.Fault.{Fault}
use Rattle.std.specs.Prelude.{Result, Ok, Err}
use Rattle.fields.specs.declared.passes.FirstFault.{FirstFault}

-- the first n entries of a table, from the k-th on
left_next : (n k : ℕ) (xs : List ℕ) → k < n → k < length xs → drop k (take n xs) ≡ get_or xs k 0 ∷ drop (k + 1) (take n xs)
left_next n k xs h i =
    drop-cons (take n xs) k 0 (simp length-take (omega arith))
    ∙ ap₂ (λ (x j : ℕ). x ∷ drop j (take n xs)) (get_or-take n xs k 0 h) (sym (add-one k))

left_none : (n k : ℕ) (xs : List ℕ) → length (take n xs) ≤ k → drop k (take n xs) ≡ []
left_none n k xs h = drop_of_length-le (take n xs) h

module _ (s : Service) (g : Guide) (bs : List ℕ) where
  no_homes : (k : ℕ) (starts : List ℕ) → first_fault s g bs k starts [] ≡ Ok tt
  unfolding first_fault
  no_homes k [] = refl
  no_homes k (at ∷ starts) = refl

  no_starts : (k : ℕ) (homes : List ℕ) → first_fault s g bs k [] homes ≡ Ok tt
  unfolding first_fault
  no_starts k homes = refl

  module _ (n : ℕ) (starts homes : List ℕ) where
    abbrev from : ℕ → Result (Unit {0}) FirstFault
    from k = first_fault s g bs k (drop k (take n starts)) (drop k (take n homes))

    -- what is found from the k-th segment on is what is found in all
    pub record Testing (k : ℕ) : Type 0 where
      pub same : from k ≡ first_fault s g bs 0 (take n starts) (take n homes)

    module _ (k : ℕ) (i : Testing k) where
      out-of-starts : length (take n starts) ≤ k → Ok tt ≡ first_fault s g bs 0 (take n starts) (take n homes)
      out-of-starts h =
          sym (ap (λ (xs : List ℕ). first_fault s g bs k xs (drop k (take n homes))) (left_none n k starts h) ∙ no_starts k (drop k (take n homes))) ∙ i.same

      pub testing_starts : length starts ≤ k → Ok tt ≡ first_fault s g bs 0 (take n starts) (take n homes)
      testing_starts h = out-of-starts (simp length-take (omega arith))

      pub testing_done : n ≤ k → Ok tt ≡ first_fault s g bs 0 (take n starts) (take n homes)
      testing_done h = out-of-starts (simp length-take (omega arith))

      pub testing_homes : length homes ≤ k → Ok tt ≡ first_fault s g bs 0 (take n starts) (take n homes)
      testing_homes h =
          sym (
          ap (first_fault s g bs k (drop k (take n starts))) (left_none n k homes (simp length-take (omega arith)))
          ∙ no_homes k (drop k (take n starts))
          ) ∙ i.same

      module _ (h : k < n) (hs : k < length starts) (hh : k < length homes) where
        one_more_lem : (q : Result (Unit {0}) Fault) → q ≡ fault_at s g bs (get_or starts k 0) (get_or homes k 0) → from k ≡ then_first k (get_or homes k 0) q (from (k + 1))
        unfolding first_fault
        one_more_lem q r =
            ap₂ (λ (xs ys : List ℕ). first_fault s g bs k xs ys) (left_next n k starts h hs) (left_next n k homes h hh)
            ∙ ap₂ (λ (x : Result (Unit {0}) Fault) (j : ℕ). then_first k (get_or homes k 0) x (first_fault s g bs j (drop (k + 1) (take n starts)) (drop (k + 1) (take n homes)))) (sym r) (sym (add-one k))

        pub testing_found : (x : Fault) → Err x ≡ fault_at s g bs (get_or starts k 0) (get_or homes k 0)
            → first_at (k + 1) (get_or homes k 0) x.element x.component ≡ first_fault s g bs 0 (take n starts) (take n homes)
        testing_found x r = ap (λ (j : ℕ). first_at j (get_or homes k 0) x.element x.component) (add-one k) ∙ sym (one_more_lem (Err x) r) ∙ i.same

        pub testing_on : Ok tt ≡ fault_at s g bs (get_or starts k 0) (get_or homes k 0) → Testing (k + 1)
        testing_on r = record { same = sym (one_more_lem (Ok tt) r) ∙ i.same }

-- ---- the steps of the pass

pub ruleset testing = (testing_starts, testing_homes, testing_done, testing_found, testing_on)
