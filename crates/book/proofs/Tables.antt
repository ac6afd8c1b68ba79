-- The tables of the one-home test: a table is filled place by place; codes numbered by the first of their value are told apart by
-- their numbers; and a mark tells whether a line has a code of the same bytes.
use Prim.Native.Nat.{ℕ, ◌+◌, ◌-◌, ◌≤◌, ◌<◌, ◌^◌}
use native.Mathlib.Omega.{arith}
use mathlib.Core.Path.{◌≡◌, refl, sym, ap, ap₂, subst, ◌∙◌}
use mathlib.Core.List.{List}
use mathlib.Core.Bool.{Bool, true, false, not}
use lib.Dec.{eqb}
use lib.ListN.{length, get_or, set}
use lib.Seq.{get_or-set_same, get_or-set_other}
use borrow.Author.Count.{below_more}
use borrow.Author.Tests.{eqb-true, eqb-false}
use Rattle.guide.specs.meaning.Guide.{Guide}
use Rattle.book.specs.method.Run.{run, all}
use Rattle.book.specs.meaning.GoodBook.{other_than_rule, other_code_rule, not_among_rule}
use Rattle.book.specs.method.Tables.{whole_code, FirstOf, Numbered, Marked}
use Rattle.book.proofs.Rules.{all_more, ends_in_true, ends_in_false, holds_run, fails_run}

-- ---- filling a table

-- what holds of each entry before a place, and of what is stored there, holds of each up to it
pub stored : (P : ℕ → ℕ → Type 0) (xs : List ℕ) (place x : ℕ) → place < length xs → ((i : ℕ) → i < place → P i (get_or xs i 0)) → P place x
    → (i : ℕ) → i < place + 1 → P i (get_or (set xs place x) i 0)
stored P xs place x within before here =
    below_more (λ (i : ℕ). P i (get_or (set xs place x) i 0)) place
    (λ i h. rw (get_or-set_other xs place i x 0 (λ e. omega arith)) (before i h))
    (rw (get_or-set_same xs place x 0 within) here)

-- ---- the first place of a value

-- what has another value than a place, and does not lie after it, lies before it
pub not_there : (value : ℕ → ℕ) (place first : ℕ) → first ≤ place → (value first ≡ value place → ⊥) → first < place
not_there value place first h other = let apart : first ≡ place → ⊥ = λ e. other (ap value e) in omega arith

pub first_agrees : (v w : ℕ → ℕ) (place first : ℕ) → ((i : ℕ) → i < place + 1 → v i ≡ w i) → FirstOf v place first → FirstOf w place first
first_agrees v w place first same f =
    let most = f.at_most in
    record {
      at_most = most;
      same = sym (same first (omega arith)) ∙ f.same ∙ same place (omega arith);
      none_before = λ d h e. f.none_before d h (same d (omega arith) ∙ e ∙ sym (same place (omega arith)));
    }

-- ---- numbers tell codes apart

module _ (g : Guide) (numbers : List ℕ) (low : (c : ℕ) → g.code_low c < 2 ^ 32)
    (first : (c : ℕ) → c < g.codes → FirstOf (whole_code g) c (get_or numbers c 0)) where
  -- of two codes of one value neither has a later first one
  not_before : (c d : ℕ) → c < g.codes → d < g.codes → whole_code g c ≡ whole_code g d → get_or numbers c 0 < get_or numbers d 0 → ⊥
  not_before c d hc hd e h = (first d hd).none_before (get_or numbers c 0) h ((first c hc).same ∙ e)

  numbers_agree : (c d : ℕ) → c < g.codes → d < g.codes → whole_code g c ≡ whole_code g d → get_or numbers c 0 ≡ get_or numbers d 0
  numbers_agree c d hc hd e =
      let a = not_before c d hc hd e in
      let b = not_before d c hd hc (sym e) in
      omega arith

  values_agree : (c d : ℕ) → c < g.codes → d < g.codes → get_or numbers c 0 ≡ get_or numbers d 0 → whole_code g c ≡ whole_code g d
  values_agree c d hc hd e = sym (first c hc).same ∙ ap (whole_code g) e ∙ (first d hd).same

  pub numbered : g.codes < 2 ^ 13 → Numbered g numbers
  numbered few =
      record {
        few = few;
        at_most = λ c h. (first c h).at_most;
        same_bytes = λ c d hc hd e. let v = values_agree c d hc hd e in let x = low c in let y = low d in (omega arith, omega arith);
        same_number = λ c d hc hd l h. numbers_agree c d hc hd (omega arith);
      }

-- ---- marks

-- a code's number is not marked exactly when the code is another one than so many from the first on
abbrev pub MarkedFrom : (g : Guide) (numbers : List ℕ) (marks : List Bool) (first count : ℕ) → Type 0
MarkedFrom g numbers marks first count = (c : ℕ) → c < g.codes → not (get_or marks (get_or numbers c 0) false) ≡ all first count (λ i. run (other_code_rule g c i))

module _ (g : Guide) (numbers : List ℕ) (n : Numbered g numbers) where
  pub in_table : (c : ℕ) → c < g.codes → get_or numbers c 0 < 8192
  in_table c h = let few = n.few in let most = n.at_most c h in omega arith

  mark_none : (marks : List Bool) (first : ℕ) → ((i : ℕ) → i < 8192 → get_or marks i false ≡ false) → MarkedFrom g numbers marks first 0
  unfolding all
  mark_none marks first blank c h = ap not (blank (get_or numbers c 0) (in_table c h))

  pub mark_start : (marks : List Bool) (first : ℕ) → ((i : ℕ) → i < 8192 → get_or marks i false ≡ false) → MarkedFrom g numbers marks first (first - first)
  mark_start marks first blank =
      let none : 0 ≡ first - first = omega arith in subst (MarkedFrom g numbers marks first) none (mark_none marks first blank)

  -- one code more: those with its number are marked now, and the others stay as they were
  mark_one : (marks : List Bool) (first count : ℕ) → first + count < g.codes → length marks ≡ 8192 → MarkedFrom g numbers marks first count
      → MarkedFrom g numbers (set marks (get_or numbers (first + count) 0) true) first (count + 1)
  unfolding other_than_rule
  mark_one marks first count within long before c h = go (eqb (get_or numbers c 0) number) refl
    where
      d : ℕ
      d = first + count

      number : ℕ
      number = get_or numbers d 0

      test : ℕ → Bool
      test i = run (other_code_rule g c i)

      go : (v : Bool) → eqb (get_or numbers c 0) number ≡ v → not (get_or (set marks number true) (get_or numbers c 0) false) ≡ all first (count + 1) test
      go true e =
          let same = eqb-true (get_or numbers c 0) number e in
          ap not (ap (λ (i : ℕ). get_or (set marks number true) i false) same ∙ get_or-set_same marks number true false (omega (arith, in_table d within)))
          ∙ sym (all_more test first count ∙ ends_in_false (all first count test) (test d) (fails_run (other_code_rule g c d) (λ other. other (n.same_bytes c d h within same))))
      go false e =
          let apart = eqb-false (get_or numbers c 0) number e in
          ap not (get_or-set_other marks number (get_or numbers c 0) true false apart)
          ∙ before c h
          ∙ sym (all_more test first count ∙ ends_in_true (all first count test) (test d) (holds_run (other_code_rule g c d) (λ same. apart (n.same_number c d h within same.0 same.1))))

  pub mark_next : (marks : List Bool) (first code : ℕ) → first ≤ code → code < g.codes → length marks ≡ 8192 → MarkedFrom g numbers marks first (code - first)
      → MarkedFrom g numbers (set marks (get_or numbers code 0) true) first (code + 1 - first)
  mark_next marks first code later within long before =
      let same : first + (code - first) ≡ code = omega arith in
      let more : code - first + 1 ≡ code + 1 - first = omega arith in
      subst (λ (n : ℕ). MarkedFrom g numbers (set marks (get_or numbers code 0) true) first n) more
      (subst (λ (d : ℕ). MarkedFrom g numbers (set marks (get_or numbers d 0) true) first (code - first + 1)) same (mark_one marks first (code - first) (omega arith) long before))

  -- all codes of a line
  pub mark_all : (marks : List Bool) (line first count : ℕ) → first ≡ g.first_code line → count ≡ g.code_count line → MarkedFrom g numbers marks first count
      → Marked g numbers marks line
  unfolding not_among_rule
  mark_all marks line first count e k from =
      record {
        numbered = n;
        free = λ c h. from c h ∙ ap₂ (λ (x n : ℕ). all x n (λ i. run (other_code_rule g c i))) e k;
      }
