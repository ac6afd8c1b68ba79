-- A code as the book holds it and as a message writes it: in a good book, and under good service characters, the bytes of a
-- component are a code's exactly when its value is the code.
use Prim.Native.Nat.{ℕ, zero, suc, ◌+◌, ◌≤◌, ◌<◌}
use native.Mathlib.Omega.{arith}
use mathlib.Core.Path.{◌≡◌, refl, sym, ap, ap₂, ◌∙◌, subst}
use mathlib.Core.List.{List, [], ◌∷◌, map, append-nil}
use mathlib.Core.Bool.{true, or-true, ◌||◌}
use mathlib.Core.Logic.{◌⊎◌, inl, inr}
use lib.Dec.{eqb}
use lib.ListN.{length, get_or, take, length-take}
use lib.Seq.{ext_get_or, get_or-take}
use borrow.Author.Tests.{eq-eqb, eqb-true, le-leb}
use Rattle.guide.specs.meaning.Guide.{Guide, guide_of}
use Rattle.book.specs.meaning.Rule.{Holds}
use Rattle.book.specs.meaning.GoodBook.{GoodBook, code_rule, code_byte_rule}
use Rattle.guide.specs.meaning.View.{numbers_from, code_value}
use Rattle.book_laws.proofs.Clauses.{code_rule_lem}
use Rattle.reading.specs.meaning.Service.{All, GoodService, is_word_byte}
use Rattle.reading.specs.meaning.Message.{Component, write_component}
use Rattle.reading.specs.meaning.Component.{same_component}
use Rattle.reading.specs.declared.service.Service.{Service}
use Rattle.reading.proofs.Comparing.{same_bytes_true}
use Rattle.reading_laws.proofs.OneReading.{IsWord, raw_is_value, word_written, same_bytes_refl}
use Rattle.placing.specs.meaning.Fitting.{is_among}
use Rattle.guide.specs.method.Codes.{spells, is_code, is_any_code}
use Rattle.reading.proofs.Booleans.{both, left, right, same_test}

-- 01: "six bytes from A–Z, a–z, 0–9 and `.`": none of them is ever released
word_byte : (x : ℕ) → ((0x41 ≤ x) × (x ≤ 0x5a)) ⊎ (((0x61 ≤ x) × (x ≤ 0x7a)) ⊎ (((0x30 ≤ x) × (x ≤ 0x39)) ⊎ (x ≡ 0x2e))) → IsWord x
unfolding is_word_byte
word_byte x (inl r) = simp (le-leb 0x41 x r.0, le-leb x 0x5a r.1, or-true)
word_byte x (inr (inl r)) = simp (le-leb 0x61 x r.0, le-leb x 0x7a r.1, or-true)
word_byte x (inr (inr (inl r))) = simp (le-leb 0x30 x r.0, le-leb x 0x39 r.1)
word_byte x (inr (inr (inr e))) = rw e refl

-- ---- spelling

spelt_at : (byte : ℕ → ℕ) (k : ℕ) (raw : List ℕ) → spells byte k raw ≡ true → (i : ℕ) → i < length raw → get_or raw i 0 ≡ byte (k + i)
unfolding spells
spelt_at byte k [] h i l = absurd (omega arith)
spelt_at byte k (x ∷ xs) h zero l = let z : k ≡ k + 0 = omega arith in eqb-true x (byte k) (left (eqb x (byte k)) _ h) ∙ ap byte z
spelt_at byte k (x ∷ xs) h (suc i) l =
    let z : suc k + i ≡ k + suc i = omega arith in
    spelt_at byte (suc k) xs (right (eqb x (byte k)) (spells byte (suc k) xs) h) i (omega arith) ∙ ap byte z

spelt_from : (byte : ℕ → ℕ) (k : ℕ) (raw : List ℕ) → ((i : ℕ) → i < length raw → get_or raw i 0 ≡ byte (k + i)) → spells byte k raw ≡ true
unfolding spells
spelt_from byte k [] h = refl
spelt_from byte k (x ∷ xs) h =
    let z : k + 0 ≡ k = omega arith in
    both (eq-eqb x (byte k) (h 0 (omega arith) ∙ ap byte z))
    (spelt_from byte (suc k) xs (λ i l. let y : k + suc i ≡ suc k + i = omega arith in h (suc i) (omega arith) ∙ ap byte y))

-- ---- the six bytes of a code

module _ (b : Guide) (c : ℕ) where
  abbrev six : List ℕ
  six = b.code_byte c 0 ∷ b.code_byte c 1 ∷ b.code_byte c 2 ∷ b.code_byte c 3 ∷ b.code_byte c 4 ∷ b.code_byte c 5 ∷ []

  six_at : (k : ℕ) → k < 6 → get_or six k 0 ≡ b.code_byte c k
  six_at zero h = refl
  six_at (suc zero) h = refl
  six_at (suc (suc zero)) h = refl
  six_at (suc (suc (suc zero))) h = refl
  six_at (suc (suc (suc (suc zero)))) h = refl
  six_at (suc (suc (suc (suc (suc zero))))) h = refl
  six_at (suc (suc (suc (suc (suc (suc k)))))) h = absurd (omega arith)

all_taken : (P : ℕ → Type 0) (n : ℕ) (xs : List ℕ) → ((k : ℕ) → k < n → k < length xs → P (get_or xs k 0)) → All P (take n xs)
all_taken P zero xs h = tt
all_taken P (suc n) [] h = tt
all_taken P (suc n) (x ∷ xs) h = (h 0 (omega arith) (omega arith), all_taken P n xs (λ k i l. h (suc k) (omega arith) (omega arith)))

module _ (book : List ℕ) (good : GoodBook book) (c : ℕ) (within : c < (guide_of book).codes) where
  long : (1 ≤ (guide_of book).code_length c) × ((guide_of book).code_length c ≤ 6)
  unfolding code_rule
  long = (code_rule_lem book good c within).0.0

  value_long : length (code_value (guide_of book) c) ≡ (guide_of book).code_length c
  value_long = let l = long in length-take ((guide_of book).code_length c) (six (guide_of book) c) ∙ omega arith

  value_at_lem : (i : ℕ) → i < (guide_of book).code_length c → get_or (code_value (guide_of book) c) i 0 ≡ (guide_of book).code_byte c i
  value_at_lem i h = let l = long in get_or-take ((guide_of book).code_length c) (six (guide_of book) c) i 0 h ∙ six_at (guide_of book) c i (omega arith)

  byte_rule : (k : ℕ) → k < 6 → Holds (code_byte_rule (guide_of book) c k)
  unfolding code_rule
  byte_rule zero h = (code_rule_lem book good c within).1.0.0
  byte_rule (suc zero) h = (code_rule_lem book good c within).1.0.1.0
  byte_rule (suc (suc zero)) h = (code_rule_lem book good c within).1.0.1.1
  byte_rule (suc (suc (suc zero))) h = (code_rule_lem book good c within).1.1.0
  byte_rule (suc (suc (suc (suc zero)))) h = (code_rule_lem book good c within).1.1.1.0
  byte_rule (suc (suc (suc (suc (suc zero))))) h = (code_rule_lem book good c within).1.1.1.1
  byte_rule (suc (suc (suc (suc (suc (suc k)))))) h = absurd (omega arith)

  word_at : (k : ℕ) → k < (guide_of book).code_length c → IsWord ((guide_of book).code_byte c k)
  unfolding code_byte_rule
  word_at k h = word_byte ((guide_of book).code_byte c k) (let l = long in (byte_rule k (omega arith)).0 (omega arith))

  words : All IsWord (code_value (guide_of book) c)
  words = all_taken IsWord ((guide_of book).code_length c) (six (guide_of book) c) (λ k i l. subst IsWord (sym (six_at (guide_of book) c k (omega arith))) (word_at k i))

  -- the bytes of a code are its value
  code_bytes : (raw : List ℕ) → is_code (guide_of book) c raw ≡ true → raw ≡ code_value (guide_of book) c
  unfolding is_code
  code_bytes raw h =
      let l = eqb-true (length raw) ((guide_of book).code_length c) (left (eqb (length raw) ((guide_of book).code_length c)) _ h) in
      let e = spelt_at ((guide_of book).code_byte c) 0 raw (right (eqb (length raw) ((guide_of book).code_length c)) _ h) in
      ext_get_or 0 raw (code_value (guide_of book) c) (l ∙ sym value_long)
      (λ i k. let z : 0 + i ≡ i = omega arith in e i k ∙ ap ((guide_of book).code_byte c) z ∙ sym (value_at_lem i (omega arith)))

  bytes_code : is_code (guide_of book) c (code_value (guide_of book) c) ≡ true
  unfolding is_code
  bytes_code =
      both (eq-eqb (length (code_value (guide_of book) c)) ((guide_of book).code_length c) value_long)
      (spelt_from ((guide_of book).code_byte c) 0 (code_value (guide_of book) c)
      (λ i k. let z : i ≡ 0 + i = omega arith in value_at_lem i (let v = value_long in omega arith) ∙ ap ((guide_of book).code_byte c) z))

  module _ (s : Service) (service : GoodService s) where
    written_code : write_component s (code_value (guide_of book) c) [] ≡ code_value (guide_of book) c
    written_code = word_written s service (code_value (guide_of book) c) [] words ∙ append-nil (code_value (guide_of book) c)

    pub one_code : (v : Component) → is_code (guide_of book) c (write_component s v []) ≡ same_component v (code_value (guide_of book) c)
    one_code v =
        same_test (is_code (guide_of book) c (write_component s v [])) (same_component v (code_value (guide_of book) c))
        (λ h. let e = (raw_is_value s v (code_value (guide_of book) c)).0 (code_bytes (write_component s v []) h ∙ sym written_code) in
        ap (λ (x : List ℕ). same_component x (code_value (guide_of book) c)) e ∙ same_bytes_refl (code_value (guide_of book) c))
        (λ h. let e = same_bytes_true v (code_value (guide_of book) c) h in
        ap (λ (x : List ℕ). is_code (guide_of book) c (write_component s x [])) e ∙ ap (is_code (guide_of book) c) written_code ∙ bytes_code)

module _ (book : List ℕ) (good : GoodBook book) (s : Service) (service : GoodService s) (v : Component) where
  -- the law: the value is among the codes exactly when its bytes are one of them
  pub any_code : (c n : ℕ) → c + n ≤ (guide_of book).codes
      → is_any_code (guide_of book) c n (write_component s v []) ≡ is_among v (map (code_value (guide_of book)) (numbers_from c n))
  unfolding is_any_code is_among
  any_code c zero h = refl
  any_code c (suc n) h = ap₂ ◌||◌ (one_code book good c (omega arith) s service v) (any_code (suc c) n (omega arith))
