-- The lines of a guide book as a message runs through them: groups, their triggers and further lines. Lines count from 1; line 0 stands
-- for the message itself.
use Rattle.std.specs.Prelude.{ℕ, zero, suc, ◌≤◌, ◌<◌, ◌≡◌, List, Bool, false, eqb}
use Rattle.guide.specs.meaning.Guide.{Guide, guide_of}
use Rattle.guide.specs.meaning.Words.{group_kind}

pub record Plan : Type 0 where
  pub lines : ℕ
  pub group : ℕ → Bool
  pub depth : ℕ → ℕ
  pub required : ℕ → Bool
  pub maximum : ℕ → ℕ

abbrev pub plan_of : Guide → Plan
plan_of g =
    record {
      lines = g.lines;
      group = λ l. eqb (g.kind l) group_kind;
      depth = g.depth;
      required = λ l. eqb (g.required l) 1;
      maximum = g.maximum;
    }

-- of a book's bytes
abbrev pub plan_in : List ℕ → Plan
plan_in book = plan_of (guide_of book)

-- 01: "runs through the lines in printed order": each line has a station of its own
abbrev pub station : Plan → ℕ → ℕ
station b l = l

-- how deep a line lies, the message itself at 0: so the further lines of p have depth `deep b p`
abbrev pub deep : Plan → ℕ → ℕ
deep b zero = 0
deep b (suc l) = suc (b.depth (suc l))

-- the line after which the further lines of a group begin, its trigger; those of the message begin after line 0
abbrev pub opening : ℕ → ℕ
opening zero = 0
opening (suc g) = suc (suc g)

-- line l is one of the further lines of p (a group, or 0 for the message): one deeper, and nothing between them lies as high as p
pub record Of (b : Plan) (p l : ℕ) : Type 0 where
  pub after : opening p < l
  pub within : l ≤ b.lines
  pub deeper : deep b l ≡ suc (deep b p)
  pub inside : (x : ℕ) → p < x → x < l → deep b p < deep b x

-- 01: "After a group of depth d comes a segment line of depth d+1, its trigger"
abbrev pub is_trigger : Plan → ℕ → Bool
is_trigger b zero = false
is_trigger b (suc zero) = false
is_trigger b (suc (suc g)) = b.group (suc g)
