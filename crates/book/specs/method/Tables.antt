-- What the tables hold by which one home is tested: each code's number, and which numbers a line has marked. Only the contracts of
-- src/numbering.rt and src/homes.rt speak of them; what one home means stands in GoodBook.antt.
use Rattle.std.specs.Prelude.{ℕ, ◌+◌, ◌*◌, ◌≤◌, ◌<◌, ◌^◌, ◌≡◌, List, Bool, false, not, get_or}
use Rattle.guide.specs.meaning.Guide.{Guide}
use Rattle.book.specs.method.Run.{run}
use Rattle.book.specs.meaning.GoodBook.{not_among_rule}

-- a code's eight bytes as one number
abbrev pub whole_code : Guide → ℕ → ℕ
whole_code g c = g.code_low c + 2 ^ 32 * g.code_high c

-- the first place that has the value of a given one
pub record FirstOf (value : ℕ → ℕ) (place first : ℕ) : Type 0 where
  pub at_most : first ≤ place
  pub same : value first ≡ value place
  pub none_before : (d : ℕ) → d < first → value d ≡ value place → ⊥

-- two codes have the same number exactly when they are the same eight bytes; and there is room for all of them
pub record Numbered (g : Guide) (numbers : List ℕ) : Type 0 where
  pub few : g.codes < 2 ^ 13
  pub at_most : (c : ℕ) → c < g.codes → get_or numbers c 0 ≤ c
  pub same_bytes : (c d : ℕ) → c < g.codes → d < g.codes → get_or numbers c 0 ≡ get_or numbers d 0
      → (g.code_low c ≡ g.code_low d) × (g.code_high c ≡ g.code_high d)
  pub same_number : (c d : ℕ) → c < g.codes → d < g.codes → g.code_low c ≡ g.code_low d → g.code_high c ≡ g.code_high d
      → get_or numbers c 0 ≡ get_or numbers d 0

-- a code's number is not marked exactly when the line has no code of the same bytes
pub record Marked (g : Guide) (numbers : List ℕ) (marks : List Bool) (line : ℕ) : Type 0 where
  pub numbered : Numbered g numbers
  pub free : (c : ℕ) → c < g.codes → not (get_or marks (get_or numbers c 0) false) ≡ run (not_among_rule g line c)
