-- What numbers 3 to 9 of 01's table say of a message, without a word about how it is found out. To be read beside "Verdict
-- numbers".
use Rattle.std.specs.Prelude.{ℕ, suc, ◌≤◌, ◌<◌, ◌≡◌, ◌⊎◌, List, [], ◌∷◌, length}
use Rattle.framing.specs.meaning.Limits.{most_bytes, most_segments}
use Rattle.reading.specs.meaning.WellFormed.{WellFormed, FirstBad}
use Rattle.reading.specs.declared.service.Service.{Service}
use Rattle.framing.specs.meaning.Record.{answer}
use Rattle.framing.specs.declared.verdict.Verdict.{Verdict}
use Rattle.reading.specs.meaning.Message.{Segment, Message}
use Rattle.reading.specs.meaning.Component.{value_at}
use Rattle.framing.specs.meaning.Decimal.{InDecimal}
use Rattle.reading.specs.meaning.Tag.{UNH, UNT}
use Rattle.framing.specs.declared.message.Room.{Room}

-- unless a test is met, this is the answer; if it is, the rest of the table decides
abbrev pub Unless : Type 0 → Type 0 → Type 0 → Type 0
Unless Met fault rest = ((Met → ⊥) × fault) ⊎ (Met × rest)

-- the first of these at which something is wrong, by its place, where k stand before; and that it is wrong at none of them
abbrev pub FirstWrong : {A : Type 0} → (ℕ → A → Type 0) → ℕ → List A → ℕ → Type 0
FirstWrong Wrong k [] p = ⊥
FirstWrong Wrong k (x ∷ xs) p = (Wrong (suc k) x × (p ≡ suc k)) ⊎ ((Wrong (suc k) x → ⊥) × FirstWrong Wrong (suc k) xs p)

abbrev pub NoneWrong : {A : Type 0} → (ℕ → A → Type 0) → ℕ → List A → Type 0
NoneWrong Wrong k [] = Unit {0}
NoneWrong Wrong k (x ∷ xs) = (Wrong (suc k) x → ⊥) × NoneWrong Wrong (suc k) xs

-- 01, number 3: "message empty or over 16,777,216 bytes" is not the case
pub record Sized (bs : List ℕ) : Type 0 where
  pub some : 0 < length bs
  pub within : length bs ≤ most_bytes

-- 01, number 6: "a table (starts, homes, parents; 32-bit entries) has fewer than n entries" is not the case
pub record HasRoom (room : Room) (n : ℕ) : Type 0 where
  pub starts : n ≤ room.starts
  pub homes : n ≤ room.homes
  pub parents : n ≤ room.parents

-- 01, number 7: "segment 1 not UNH, segment n not UNT, or another is either"
pub data Misplaced (n k : ℕ) (g : Segment) : Type 0 where
  no_unh : k ≡ 1 → (g.tag ≡ UNH → ⊥) → Misplaced n k g
  another_unh : (k ≡ 1 → ⊥) → g.tag ≡ UNH → Misplaced n k g
  no_unt : k ≡ n → (g.tag ≡ UNT → ⊥) → Misplaced n k g
  another_unt : (k ≡ n → ⊥) → g.tag ≡ UNT → Misplaced n k g

-- its first segment and its last
abbrev pub IsFirst : Message → Segment → Type 0
IsFirst [] x = ⊥
IsFirst (g ∷ gs) x = g ≡ x

abbrev pub IsLast : Message → Segment → Type 0
IsLast [] x = ⊥
IsLast (g ∷ []) x = g ≡ x
IsLast (g ∷ h ∷ gs) x = IsLast (h ∷ gs) x

-- 01, number 8: "UNT element 1, component 1, is not n in decimal without leading zeros" is not the case
abbrev pub TellsCount : Message → Type 0
TellsCount m = (unt : Segment) → IsLast m unt → InDecimal (length m) (value_at unt 1 1)

-- 01, number 9: "UNT element 2 differs from UNH element 1 (first components)" is not the case
abbrev pub TellsReference : Message → Type 0
TellsReference m = (unh unt : Segment) → IsFirst m unh → IsLast m unt → value_at unt 2 1 ≡ value_at unh 1 1

-- ---- numbers 3 to 9 in their order; of a message that has none of these faults `Rest` says what the answer is

module _ (s : Service) (bs : List ℕ) (room : Room) (Rest : Message → Verdict → Type 0) where
  -- 5 to 9
  abbrev pub MessageSays : Message → Verdict → Type 0
  MessageSays m v =
      Unless (length m ≤ most_segments) (v ≡ answer 5 0)
      (Unless (HasRoom room (length m)) (v ≡ answer 6 (length m))
      (((k : ℕ) × FirstWrong (Misplaced (length m)) 0 m k × (v ≡ answer 7 k))
      ⊎ (NoneWrong (Misplaced (length m)) 0 m
      × Unless (TellsCount m) (v ≡ answer 8 (length m)) (Unless (TellsReference m) (v ≡ answer 9 (length m)) (Rest m v)))))

  -- 3 and 4
  abbrev pub BytesSay : Verdict → Type 0
  BytesSay v =
      Unless (Sized bs) (v ≡ answer 3 0) (((k : ℕ) × FirstBad s bs k × (v ≡ answer 4 k)) ⊎ ((w : WellFormed s bs) × MessageSays w.message v))
