-- A good book's rows by Prüfidentifikator and line, as the layers above see them. 01, "The guide book": Row.
use Prim.Native.Nat.{ℕ, zero, suc, ◌+◌, ◌*◌, ◌-◌, ◌/◌, ◌%◌, ◌≤◌, ◌<◌}
use native.Mathlib.Omega.{arith}
use native.Mathlib.Decide.{dec_lt}
use native.Mathlib.Nat.{mul-add-mod_self_right, mod-eq_of_lt, mod-lt, mul-add-div_right, div-eq_of_lt, div-add-mod', div-lt_iff_lt-mul}
use mathlib.Core.Path.{◌≡◌, refl, sym, ap, ◌∙◌}
use mathlib.Core.List.{List, [], ◌∷◌, ◌++◌}
use mathlib.Core.Logic.{◌⊎◌, dite}
use mathlib.Core.Bool.{true}
use lib.ListN.{length, get_or, replicate}
use borrow.Author.Tests.{eq-eqb, ne_eqb, eqb-true}
use Rattle.guide.specs.meaning.Words.{must_mode, may_mode, must_if_mode, may_if_mode, all_joint, any_joint}
use Rattle.book.specs.meaning.Rule.{Holds}
use Rattle.guide.specs.meaning.Guide.{Guide, guide_of}
use Rattle.book.specs.meaning.GoodBook.{GoodBook, mode_rule, row_end_rule, required_row_rule, no_expression_rule, expression_rule, next_literal_rule}
use Rattle.guide.specs.meaning.View.{Row, line_of, row_number, row_of, in_use}
use Rattle.book_laws.proofs.Clauses.{row_rule_lem}

-- 01: "a byte is the number, plus 128 for "not"; numbers reach the condition count at most", "numbers at least 1"
abbrev pub Within : ℕ → ℕ → Type 0
Within most x = (1 ≤ x % 128) × (x % 128 ≤ most)

-- 01: "rising strictly": conditions whose numbers rise from above one number up to another
abbrev pub NumbersRise : ℕ → ℕ → List ℕ → Type 0
NumbersRise above most [] = Unit {0}
NumbersRise above most (x ∷ xs) = (above < x % 128) × (x % 128 ≤ most) × NumbersRise (x % 128) most xs

-- 01: "Modes 3 and 4 have one to three conditions, .. unused bytes zero and last"; "Joint 1 is all, 2 is any; with one condition
-- it is 1."
pub record Expression (most : ℕ) (row : Row) : Type 0 where
  pub some : in_use row.conditions ≡ [] → ⊥
  pub rising : NumbersRise 0 most (in_use row.conditions)
  pub unused : row.conditions ≡ in_use row.conditions ++ replicate (3 - length (in_use row.conditions)) 0
  pub joint : (row.joint ≡ all_joint) ⊎ (row.joint ≡ any_joint)
  pub alone : length (in_use row.conditions) ≡ 1 → row.joint ≡ all_joint

-- ---- 01: "one per Prüfidentifikator and line, lines running fastest"

module _ (g : Guide) where
  -- each row has its line
  pub line_of_row : (p l : ℕ) → 1 ≤ l → l ≤ g.lines → row_number g p l % g.lines + 1 ≡ l
  line_of_row p l from to =
      let a = mul-add-mod_self_right p g.lines (l - 1) in
      let b : (l - 1) % g.lines ≡ l - 1 = mod-eq_of_lt (omega arith) in
      omega arith

  -- and its Prüfidentifikator
  pub identifier_of_row : (p l : ℕ) → 1 ≤ l → l ≤ g.lines → row_number g p l / g.lines ≡ p
  identifier_of_row p l from to =
      let some : 0 < g.lines = omega arith in
      let a = mul-add-div_right some p (l - 1) in
      let b : (l - 1) / g.lines ≡ 0 = div-eq_of_lt (omega arith) in
      omega arith

  -- inside the block
  pub row_inside : (p l : ℕ) → p < g.identifiers → 1 ≤ l → l ≤ g.lines → row_number g p l < g.identifiers * g.lines
  row_inside p l known from to = let some : 0 < g.lines = omega arith in (div-lt_iff_lt-mul some).0 (rw (identifier_of_row p l from to) known)

  -- no two share a row
  pub one_row : (p q l m : ℕ) → 1 ≤ l → l ≤ g.lines → 1 ≤ m → m ≤ g.lines → row_number g p l ≡ row_number g q m → (p ≡ q) × (l ≡ m)
  one_row p q l m a b c d e = (
    sym (identifier_of_row p l a b) ∙ ap (λ (r : ℕ). r / g.lines) e ∙ identifier_of_row q m c d,
    sym (line_of_row p l a b) ∙ ap (λ (r : ℕ). r % g.lines + 1) e ∙ line_of_row q m c d,
  )

  -- and every row of the block is that of some Prüfidentifikator and line
  pub every_row : (r : ℕ) → r < g.identifiers * g.lines → (p : ℕ) × (l : ℕ) × (p < g.identifiers) × (1 ≤ l) × (l ≤ g.lines) × (row_number g p l ≡ r)
  every_row r h =
      dite (dec_lt 0 g.lines)
      (λ some. (r / g.lines, r % g.lines + 1, (div-lt_iff_lt-mul some).1 h, omega arith, omega (arith, mod-lt r some), omega (arith, div-add-mod' r g.lines)))
      (λ none. let z : g.lines ≡ 0 = omega arith in absurd (let n = rw z at h in omega arith))

-- ---- an expression from its bytes

one_in_use : (a b c : ℕ) → (a ≡ 0 → ⊥) → b ≡ 0 → in_use (a ∷ b ∷ c ∷ []) ≡ a ∷ []
one_in_use a b c h e = simp (ne_eqb a 0 h, eq-eqb b 0 e)

two_in_use : (a b c : ℕ) → (a ≡ 0 → ⊥) → (b ≡ 0 → ⊥) → c ≡ 0 → in_use (a ∷ b ∷ c ∷ []) ≡ a ∷ b ∷ []
two_in_use a b c h k e = simp (ne_eqb a 0 h, ne_eqb b 0 k, eq-eqb c 0 e)

three_in_use : (a b c : ℕ) → (a ≡ 0 → ⊥) → (b ≡ 0 → ⊥) → (c ≡ 0 → ⊥) → in_use (a ∷ b ∷ c ∷ []) ≡ a ∷ b ∷ c ∷ []
three_in_use a b c h k m = simp (ne_eqb a 0 h, ne_eqb b 0 k, ne_eqb c 0 m)

not_empty : (x : ℕ) (xs : List ℕ) → x ∷ xs ≡ [] → ⊥
not_empty x xs e = let z : ◌≡◌ {A = ℕ} 0 1 = cc in omega arith

in_use_lem : (most : ℕ) (row : Row) (used : List ℕ) → in_use row.conditions ≡ used → (used ≡ [] → ⊥) → NumbersRise 0 most used
    → row.conditions ≡ used ++ replicate (3 - length used) 0 → (row.joint ≡ all_joint) ⊎ (row.joint ≡ any_joint) → (length used ≡ 1 → row.joint ≡ all_joint) → Expression most row
in_use_lem most row used e some rising unused joint alone =
    record {
      some = rw e some;
      rising = rw e rising;
      unused = rw e unused;
      joint = joint;
      alone = rw e alone;
    }

module _ (most mode joint a b c : ℕ) where
  -- of one condition more, in use or not
  abbrev Next : ℕ → ℕ → Type 0
  Next x y = 1 ≤ y → Within most y × (x % 128 + 1 ≤ y % 128)

  expressed : Within most a → Next a b → Next b c → (joint ≡ all_joint) ⊎ (joint ≡ any_joint) → (b ≡ 0 → (c ≡ 0) × (joint ≡ all_joint))
      → Expression most (record { mode = mode; joint = joint; conditions = a ∷ b ∷ c ∷ [] })
  expressed first next-b next-c joined alone = dite (dec_lt 0 b) (λ h. dite (dec_lt 0 c) (three h) (two h)) one
    where
      row : Row
      row = record { mode = mode; joint = joint; conditions = a ∷ b ∷ c ∷ [] }

      one : (0 < b → ⊥) → Expression most row
      one n =
          let z : b ≡ 0 = omega arith in let last = alone z in
          in_use_lem most row (a ∷ []) (one_in_use a b c (λ e. omega arith) z) (not_empty a []) (omega arith, omega arith, tt)
          (rw (z, last.0)) joined (λ i. last.1)

      two : 0 < b → (0 < c → ⊥) → Expression most row
      two h n =
          let z : c ≡ 0 = omega arith in let second = next-b h in
          in_use_lem most row (a ∷ b ∷ []) (two_in_use a b c (λ e. omega arith) (λ e. omega arith) z) (not_empty a (b ∷ []))
          (omega arith, omega arith, (omega arith, omega arith, tt)) (rw z) joined (λ i. omega arith)

      three : 0 < b → 0 < c → Expression most row
      three h k =
          let second = next-b h in let third = next-c k in
          in_use_lem most row (a ∷ b ∷ c ∷ []) (three_in_use a b c (λ e. omega arith) (λ e. omega arith) (λ e. omega arith)) (not_empty a (b ∷ c ∷ []))
          (omega arith, omega arith, (omega arith, omega arith, (omega arith, omega arith, tt))) refl joined (λ i. omega arith)

one_of_conditions : (most a b c : ℕ) → (1 ≤ a → Within most a) → (1 ≤ b → Within most b) → (1 ≤ c → Within most c)
    → (k : ℕ) → 1 ≤ get_or (a ∷ b ∷ c ∷ []) k 0 → Within most (get_or (a ∷ b ∷ c ∷ []) k 0)
one_of_conditions most a b c x y z zero h = x h
one_of_conditions most a b c x y z (suc zero) h = y h
one_of_conditions most a b c x y z (suc (suc zero)) h = z h
one_of_conditions most a b c x y z (suc (suc (suc k))) h = absurd (omega arith)

-- ---- a row of a good book

module _ (bs : List ℕ) (good : GoodBook bs) (p l : ℕ) (known : p < (guide_of bs).identifiers) (from : 1 ≤ l) (to : l ≤ (guide_of bs).lines) where
  row : Holds (mode_rule (guide_of bs) (row_number (guide_of bs) p l)) × Holds (row_end_rule (guide_of bs) (row_number (guide_of bs) p l))
      × Holds (required_row_rule (guide_of bs) (row_number (guide_of bs) p l))
  row = row_rule_lem bs good (row_number (guide_of bs) p l) (row_inside (guide_of bs) p l known from to)

  -- 01: "Modes: 0 never, 1 must, 2 may, 3 must if the expression holds and otherwise never, 4 may if it holds and otherwise never."
  pub mode_within : (row_of (guide_of bs) p l).mode ≤ may_if_mode
  unfolding mode_rule
  mode_within = row.0.0

  -- 01: "Rows of required lines have mode 1."
  pub required_row : (line_of (guide_of bs) l).required ≡ true → (row_of (guide_of bs) p l).mode ≡ must_mode
  unfolding required_row_rule
  required_row e = row.2 (rw (line_of_row (guide_of bs) p l from to) (eqb-true _ _ e))

  -- 01: "Modes 0–2 have zeros elsewhere."
  pub plain_row : (row_of (guide_of bs) p l).mode ≤ may_mode → ((row_of (guide_of bs) p l).joint ≡ 0) × ((row_of (guide_of bs) p l).conditions ≡ 0 ∷ 0 ∷ 0 ∷ [])
  unfolding mode_rule no_expression_rule
  plain_row h = let r = row.0.1.0 h in (r.0, rw (r.1.0, r.1.1.0, r.1.1.1))

  -- what modes 3 and 4 have
  pub row_expression : must_if_mode ≤ (row_of (guide_of bs) p l).mode → Expression (guide_of bs).conditions (row_of (guide_of bs) p l)
  unfolding mode_rule expression_rule next_literal_rule
  row_expression h = let e = row.0.1.1 h in expressed _ _ _ _ _ _ e.0 e.1.0 e.1.1.0 e.1.1.1.0 e.1.1.1.1

  -- of any condition but 0, whatever the mode
  pub condition_within : (k : ℕ) → 1 ≤ get_or (row_of (guide_of bs) p l).conditions k 0 → Within (guide_of bs).conditions (get_or (row_of (guide_of bs) p l).conditions k 0)
  unfolding mode_rule no_expression_rule expression_rule next_literal_rule
  condition_within =
      dite (dec_lt (row_of (guide_of bs) p l).mode must_if_mode)
      (λ m. let r = row.0.1.0 (omega arith) in one_of_conditions _ _ _ _ (λ h. absurd (omega arith)) (λ h. absurd (omega arith)) (λ h. absurd (omega arith)))
      (λ m. let e = row.0.1.1 (omega arith) in one_of_conditions _ _ _ _ (λ h. e.0) (λ h. (e.1.0 h).0) (λ h. (e.1.1.0 h).0))
