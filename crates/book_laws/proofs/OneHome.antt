-- One home, by values: two segment lines of the same tag have no code value in common, since codes with the same value are the
-- same eight bytes.
use Prim.Native.Nat.{ℕ, ◌+◌, ◌≤◌, ◌<◌}
use native.Mathlib.Omega.{arith}
use native.Mathlib.Decide.{dec_lt}
use mathlib.Core.Path.{◌≡◌, sym, ap, ◌∙◌}
use mathlib.Core.List.{List, [], ◌∷◌}
use mathlib.Core.Logic.{dite}
use lib.ListN.{length, get_or, length-take}
use lib.Seq.{get_or-take}
use Rattle.book.specs.meaning.Rule.{Holds}
use Rattle.guide.specs.meaning.Guide.{guide_of}
use Rattle.guide.specs.meaning.View.{code_value}
use Rattle.guide.proofs.WideNumbers.{code_low_bytes, code_high_bytes}
use Rattle.book.specs.meaning.GoodBook.{GoodBook, code_rule, code_byte_rule, pair_rule, same_tag_rule, told_apart_rule, not_among_rule, other_than_rule}
use Rattle.book_laws.proofs.Clauses.{code_rule_lem, line_codes, one_home}

-- the six bytes of a code's value and the zeros behind it
abbrev six : List ℕ → ℕ → List ℕ
six bs c =
    (guide_of bs).code_byte c 0 ∷ (guide_of bs).code_byte c 1 ∷ (guide_of bs).code_byte c 2 ∷ (guide_of bs).code_byte c 3 ∷ (guide_of bs).code_byte c 4 ∷ (guide_of bs).code_byte c 5 ∷ []

module _ (bs : List ℕ) (good : GoodBook bs) where
  length_within : (c : ℕ) → c < (guide_of bs).codes → (1 ≤ (guide_of bs).code_length c) × ((guide_of bs).code_length c ≤ 6)
  unfolding code_rule
  length_within c h = (code_rule_lem bs good c h).0.0

  ends_in_zero : (c : ℕ) → c < (guide_of bs).codes → (guide_of bs).code_end c ≡ 0
  unfolding code_rule
  ends_in_zero c h = (code_rule_lem bs good c h).0.1

  -- a byte behind the length is zero
  zeros : (c : ℕ) → c < (guide_of bs).codes → ((guide_of bs).code_length c ≤ 0 → (guide_of bs).code_byte c 0 ≡ 0) × ((guide_of bs).code_length c ≤ 1 → (guide_of bs).code_byte c 1 ≡ 0)
      × ((guide_of bs).code_length c ≤ 2 → (guide_of bs).code_byte c 2 ≡ 0) × ((guide_of bs).code_length c ≤ 3 → (guide_of bs).code_byte c 3 ≡ 0)
      × ((guide_of bs).code_length c ≤ 4 → (guide_of bs).code_byte c 4 ≡ 0) × ((guide_of bs).code_length c ≤ 5 → (guide_of bs).code_byte c 5 ≡ 0)
  unfolding code_rule code_byte_rule
  zeros c h = let r = code_rule_lem bs good c h in (r.1.0.0.1, r.1.0.1.0.1, r.1.0.1.1.1, r.1.1.0.1, r.1.1.1.0.1, r.1.1.1.1.1)

  -- codes with the same value have the same bytes
  module _ (c d : ℕ) (hc : c < (guide_of bs).codes) (hd : d < (guide_of bs).codes) (e : code_value (guide_of bs) c ≡ code_value (guide_of bs) d) where
    same_length : (guide_of bs).code_length c ≡ (guide_of bs).code_length d
    same_length =
        let a = length_within c hc in let b = length_within d hd in
        let l = ap length e in
        omega (arith, length-take ((guide_of bs).code_length c) (six bs c), length-take ((guide_of bs).code_length d) (six bs d))

    -- byte k is within the value, or behind it in both
    same_byte : (k : ℕ) → ((guide_of bs).code_length c ≤ k → get_or (six bs c) k 0 ≡ 0) → ((guide_of bs).code_length d ≤ k → get_or (six bs d) k 0 ≡ 0)
        → get_or (six bs c) k 0 ≡ get_or (six bs d) k 0
    same_byte k zc zd =
        dite (dec_lt k ((guide_of bs).code_length c))
        (λ h. sym (get_or-take ((guide_of bs).code_length c) (six bs c) k 0 h) ∙ ap (λ (x : List ℕ). get_or x k 0) e
        ∙ get_or-take ((guide_of bs).code_length d) (six bs d) k 0 (let s = same_length in omega arith))
        (λ n. zc (omega arith) ∙ sym (zd (let s = same_length in omega arith)))

    same_low : (guide_of bs).code_low c ≡ (guide_of bs).code_low d
    same_low =
        let p = zeros c hc in let q = zeros d hd in
        let s = same_length in
        let x = same_byte 0 p.0 q.0 in
        let y = same_byte 1 p.1 q.1 in
        let z = same_byte 2 p.2 q.2 in
        omega (arith, code_low_bytes bs c, code_low_bytes bs d)

    same_high : (guide_of bs).code_high c ≡ (guide_of bs).code_high d
    same_high =
        let p = zeros c hc in let q = zeros d hd in
        let x = same_byte 3 p.3 q.3 in
        let y = same_byte 4 p.4 q.4 in
        let z = same_byte 5 p.5 q.5 in
        let v = ends_in_zero c hc in let w = ends_in_zero d hd in
        omega (arith, code_high_bytes bs c, code_high_bytes bs d)

  -- the law: no value is a code of both lines
  pub no_common_code : (l m c d : ℕ) → 1 ≤ l → l < m → m ≤ (guide_of bs).lines → Holds (same_tag_rule (guide_of bs) l m)
      → (guide_of bs).first_code l ≤ c → c < (guide_of bs).first_code l + (guide_of bs).code_count l
      → (guide_of bs).first_code m ≤ d → d < (guide_of bs).first_code m + (guide_of bs).code_count m
      → code_value (guide_of bs) c ≡ code_value (guide_of bs) d → ⊥
  unfolding pair_rule told_apart_rule not_among_rule other_than_rule
  no_common_code l m c d a b h t cl cr dl dr e =
      let hc : c < (guide_of bs).codes = omega (arith, line_codes bs good l a (omega arith)) in
      let hd : d < (guide_of bs).codes = omega (arith, line_codes bs good m (omega arith) h) in
      (one_home bs good l a (omega arith) m (omega arith) h t).1 c cl cr d dl dr (same_low c d hc hd e, same_high c d hc hd e)
