-- Allowed sequences of homes, as placement trees. 01, "Placing and judging", first paragraph.
use Rattle.std.specs.Prelude.{ℕ, suc, ◌+◌, ◌≤◌, ◌<◌, ◌≡◌, List, [], ◌∷◌, ◌++◌, true, false, cond, eqb, length, take}
use Rattle.guide.specs.meaning.Plan.{Plan, station, Of}

-- What the message or one instance of a group holds, in the order of the message, the last outermost: nothing; a segment of a
-- line behind the rest; an instance of a group behind the rest, which is its trigger and then what it holds.
pub data Contents : Type 0 where
  nothing : Contents
  segment : Contents → ℕ → Contents
  instance : Contents → ℕ → Contents → Contents

-- the homes of its segments, in front of what follows
unfoldable pub homes : Contents → List ℕ → List ℕ
homes nothing rest = rest
homes (segment ks l) rest = homes ks (l ∷ rest)
homes (instance ks g inner) rest = homes ks (suc g ∷ homes inner rest)

abbrev pub homes_of : Contents → List ℕ
homes_of ks = homes ks []

-- ---- which are allowed

-- how many there are of a line, segments or instances
unfoldable pub count : ℕ → Contents → ℕ
count l nothing = 0
count l (segment ks m) = cond (eqb m l) 1 0 + count l ks
count l (instance ks g inner) = cond (eqb g l) 1 0 + count l ks

-- 01: "a segment line gives 0 (1 if required) up to its maximum of segments; a group gives instances likewise"
abbrev pub Counted : Plan → ℕ → Contents → Type 0
Counted b p ks = (l : ℕ) → Of b p l → (count l ks ≤ b.maximum l) × (b.required l ≡ true → 1 ≤ count l ks)

-- none of them stands behind line l
abbrev pub UpTo : Plan → Contents → ℕ → Type 0
UpTo b ks l = (m : ℕ) → 0 < count m ks → station b m ≤ station b l

-- 01: "runs through the lines in printed order": each is of a line of p and of its kind, none stands before an earlier one's
-- line; "each its trigger and then the group's further lines": and what each instance holds is allowed in it
abbrev pub Runs : Plan → ℕ → Contents → Type 0
Runs b p nothing = Unit {0}
Runs b p (segment ks l) = Runs b p ks × Of b p l × (b.group l ≡ false) × UpTo b ks l
Runs b p (instance ks g inner) = Runs b p ks × Of b p g × (b.group g ≡ true) × UpTo b ks g × Runs b g inner × Counted b g inner

-- a whole message placed
pub record Placed (b : Plan) (hs : List ℕ) : Type 0 where
  pub tree : Contents
  pub runs : Runs b 0 tree
  pub counted : Counted b 0 tree
  pub same : homes_of tree ≡ hs

abbrev pub Allowed : Plan → List ℕ → Type 0
Allowed b hs = Placed b hs

-- to begin an allowed sequence is to be completed to one by some rest
abbrev pub Begins : Plan → List ℕ → Type 0
Begins b hs = (rest : List ℕ) × Allowed b (hs ++ rest)

-- 01, number 11: "smallest k whose first k homes begin no allowed sequence"
pub record Stops (b : Plan) (hs : List ℕ) (k : ℕ) : Type 0 where
  pub some : 1 ≤ k
  pub within : k ≤ length hs
  pub shorter : (j : ℕ) → j < k → Begins b (take j hs)
  pub stops : Begins b (take k hs) → ⊥

-- ---- the tree

unfoldable pub size : Contents → ℕ
size nothing = 0
size (segment ks l) = suc (size ks)
size (instance ks g inner) = suc (size ks + size inner)

-- 01: "The tree gives for each segment the trigger's segment number of the innermost instance holding it, a trigger pointing to
-- its parent instance's trigger, and 0 at the root." In front of what follows; k segments stand before, and `up` is the trigger of the instance that holds these
unfoldable pub parents : ℕ → ℕ → Contents → List ℕ → List ℕ
parents up k nothing rest = rest
parents up k (segment ks l) rest = parents up k ks (up ∷ rest)
parents up k (instance ks g inner) rest = parents up k ks (up ∷ parents (suc (k + size ks)) (suc (k + size ks)) inner rest)

abbrev pub parents_of : Contents → List ℕ
parents_of ks = parents 0 0 ks []
