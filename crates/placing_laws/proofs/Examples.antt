-- 01's bench messages for book K, as homes: where they stop, and the tree of the longest.
use Prim.Native.Nat.{ℕ}
use mathlib.Core.Path.{◌≡◌, refl}
use mathlib.Core.List.{List, [], ◌∷◌}
use Rattle.guide.specs.meaning.Edition.{edition_numbered}
use Rattle.guide.specs.meaning.Guide.{guide_of}
use Rattle.book_laws.proofs.Bytes.{k}
use Rattle.book_laws.proofs.Inhabited.{k_is_good}
use Rattle.guide.specs.meaning.Plan.{Plan, plan_in}
use Rattle.guide.specs.method.Targets.{target}
use Rattle.placing.specs.meaning.Placement.{Allowed}
use Rattle.placing.specs.method.Walking.{is_placeable, is_clear, is_passed, can_close_all, admits, stacked, advanced, walked}
use Rattle.placing.specs.method.Tree.{opened_by, noted, noted_parents}
use Rattle.guide.specs.meaning.Tree.{climb}
use Rattle.placing_laws.specs.laws.ClosedTree.{last_of, closed, closed_parents}
use Rattle.placing.specs.method.Passes.{tested_from, tested}
use Rattle.placing.specs.declared.passes.Unplaced.TheVariants.{NoHome, Stops}
use Rattle.std.specs.Prelude.{Ok, Err}
use Rattle.placing_laws.proofs.Structured.{structured}
use Rattle.placing_laws.proofs.Completing.{end_allowed}

-- 1 UNH, 2 BGM, 3 RFF, 4 group, 5 LIN, 6 QTY, 7 UNT; 0 is no home
abbrev K : Plan
K = plan_in k

abbrev positions : List ℕ
positions = 1 ∷ 2 ∷ 3 ∷ 5 ∷ 6 ∷ 5 ∷ 7 ∷ []

pub record Table : Type 0 where
  three_lin : tested K (1 ∷ 2 ∷ 3 ∷ 5 ∷ 5 ∷ 5 ∷ 7 ∷ []) ≡ Err (Stops 6)
  qty_first : tested K (1 ∷ 2 ∷ 3 ∷ 6 ∷ 5 ∷ 7 ∷ []) ≡ Err (Stops 4)
  no_rff : tested K (1 ∷ 2 ∷ 7 ∷ []) ≡ Err (Stops 3)
  no_position : tested K (1 ∷ 2 ∷ 3 ∷ 7 ∷ []) ≡ Ok tt
  two_positions : tested K positions ≡ Ok tt
  -- a segment without a home is found behind homes that are not allowed
  homeless_behind : tested K (1 ∷ 2 ∷ 7 ∷ 0 ∷ []) ≡ Err (NoHome 4)
  tree : noted_parents K positions ≡ 0 ∷ 0 ∷ 0 ∷ 0 ∷ 4 ∷ 0 ∷ 0 ∷ []
  tree_closed : closed_parents K positions ≡ 0 ∷ 0 ∷ 0 ∷ 0 ∷ 4 ∷ 0 ∷ 0 ∷ []

pub bench : Table
unfolding k edition_numbered guide_of tested_from walked advanced is_placeable target admits stacked is_clear is_passed can_close_all opened_by noted climb last_of closed
bench =
    record {
      three_lin = refl;
      qty_first = refl;
      no_rff = refl;
      no_position = refl;
      two_positions = refl;
      homeless_behind = refl;
      tree = refl;
      tree_closed = refl;
    }

-- and so a sequence is allowed: the laws speak of something
pub two_positions_allowed : Allowed K positions
unfolding k edition_numbered guide_of walked advanced is_placeable target admits stacked is_clear is_passed can_close_all
two_positions_allowed = end_allowed K (structured k k_is_good) positions refl
