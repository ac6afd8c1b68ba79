-- A rule asked of each number of a range, by the library's `all`: the answer is the rule's own test.
use Prim.Native.Nat.{ℕ, zero, suc, ◌+◌, ◌-◌, ◌≤◌, ◌<◌}
use native.Mathlib.Omega.{arith}
use native.Mathlib.Numerals.{add-one}
use mathlib.Core.Path.{◌≡◌, refl, ap, ap₂, ◌∙◌}
use mathlib.Core.Bool.{Bool, true, false, ◌&&◌}
use mathlib.Core.List.{List}
use denote.Param.Members.{Mut}
use Rattle.std.specs.Prelude.{Option, MatchOption}
use Rattle.std.specs.Fn.{Called}
use Rattle.std.specs.Iterator.{YieldsThen}
use Rattle.std.specs.List.{FoldsTo, list_all, range_with_len}
use Rattle.std.specs.declared.ops.Range.{Range}
use Rattle.std.proofs.iter.Yields.{nat_range_steps}
use Rattle.std.proofs.lemmas.Iterator.{YieldsList-from_range}
use Rattle.std.proofs.lemmas.Iterator.Search.{all_from_yields_List}
use Rattle.book.specs.meaning.Rule.{Rule, every}
use Rattle.book.specs.method.Run.{run, all}

all_listed : (test : ℕ → Bool) (count first : ℕ) → list_all test (range_with_len first count) ≡ all first count test
unfolding all
all_listed test zero first = refl
all_listed test (suc count) first =
    ap (λ (r : Bool). test first && r) (ap (λ (x : ℕ). list_all test (range_with_len x count)) (add-one first) ∙ all_listed test count (suc first))

last : (a : Bool) → (a && true) ≡ a
last true = refl
last false = refl

halved : (a b c d : Bool) → (a && (b && (c && d))) ≡ ((a && (b && c)) && d)
halved true true c d = refl
halved true false c d = refl
halved false b c d = refl

pub all_asked : {F : Type 0} {g : Mut F (ℕ × Unit {0}) Bool} (test : ℕ → Bool) (first end count : ℕ) (u : Range ℕ) (f : F) (r : Bool)
    → (xs : List ℕ) × (o : Option ℕ) × (j : F) × YieldsThen nat_range_steps (record { start = first; end = end }) xs o u × FoldsTo (λ p x q. Called g p (x, tt) true q) f xs j × MatchOption o (r ≡ true) (λ x. (r ≡ false) × ((h : F) × Called g j (x, tt) false h))
    → end - first ≡ count → ((x : ℕ) (b : Bool) (q : F) → Called g f (x, tt) b q → (q ≡ f) × (b ≡ test x)) → r ≡ all first count test
all_asked test first end count u f r ran e asks =
    all_from_yields_List test u f r ran (YieldsList-from_range first end count refl e) asks ∙ all_listed test count first

pub every_asked : {F : Type 0} {g : Mut F (ℕ × Unit {0}) Bool} (rule : ℕ → Rule) (first end count : ℕ) (u : Range ℕ) (f : F) (r : Bool)
    → (xs : List ℕ) × (o : Option ℕ) × (j : F) × YieldsThen nat_range_steps (record { start = first; end = end }) xs o u × FoldsTo (λ p x q. Called g p (x, tt) true q) f xs j × MatchOption o (r ≡ true) (λ x. (r ≡ false) × ((h : F) × Called g j (x, tt) false h))
    → end - first ≡ count → ((x : ℕ) (b : Bool) (q : F) → Called g f (x, tt) b q → (q ≡ f) × (b ≡ run (rule x))) → r ≡ run (every first count rule)
every_asked rule = all_asked (λ (i : ℕ). run (rule i))

-- a test that agrees with another on the range
pub all_alike : (test other : ℕ → Bool) (count first : ℕ) → ((i : ℕ) → first ≤ i → i < first + count → test i ≡ other i) → all first count test ≡ all first count other
unfolding all
all_alike test other zero first alike = refl
all_alike test other (suc count) first alike =
    ap₂ ◌&&◌ (alike first (omega arith) (omega arith)) (all_alike test other count (suc first) (λ i a b. alike i (omega arith) (omega arith)))

-- three numbers; the first five; and the first six, each half joined by itself
pub three : (test : ℕ → Bool) (first : ℕ) → all first 3 test ≡ (test first && (test (suc first) && test (suc (suc first))))
unfolding all
three test first = ap (λ (r : Bool). test first && (test (suc first) && r)) (last (test (suc (suc first))))

pub five : (test : ℕ → Bool) → all 0 5 test ≡ (test 0 && (test 1 && (test 2 && (test 3 && test 4))))
unfolding all
five test = ap (λ (r : Bool). test 0 && (test 1 && (test 2 && (test 3 && r)))) (last (test 4))

pub six : (test : ℕ → Bool) → all 0 6 test ≡ ((test 0 && (test 1 && test 2)) && (test 3 && (test 4 && test 5)))
unfolding all
six test = ap (λ (r : Bool). test 0 && (test 1 && (test 2 && (test 3 && (test 4 && r))))) (last (test 5)) ∙ halved (test 0) (test 1) (test 2) (test 3 && (test 4 && test 5))
