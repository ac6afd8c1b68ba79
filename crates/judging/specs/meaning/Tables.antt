-- The three lent tables, and which answers leave them alone. 01, "Verdict numbers".
use Rattle.std.specs.Prelude.{ℕ, List, Bool, ◌&&◌, leb, length}
use Rattle.framing.specs.declared.message.Room.{Room}

-- 01: "Numbers 1–11 change no table."
abbrev pub is_refusal : ℕ → Bool
is_refusal number = leb 1 number && leb number 11

-- 01: "(tag offsets, line numbers, the tree)"
pub record Tables : Type 0 where
  pub starts : List ℕ
  pub homes : List ℕ
  pub parents : List ℕ

abbrev pub tables : List ℕ → List ℕ → List ℕ → Tables
tables starts homes parents = record { starts = starts; homes = homes; parents = parents }

abbrev pub room_of : Tables → Room
room_of t = record { starts = length t.starts; homes = length t.homes; parents = length t.parents }
