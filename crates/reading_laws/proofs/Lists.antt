-- What holds of All and of Last, whatever the list is of.
use mathlib.Core.List.{List, [], ◌∷◌, ◌++◌}
use Rattle.reading.specs.meaning.Service.{All}
use Rattle.reading.specs.meaning.Message.{Last}

pub all_map : {A : Type 0} (P Q : A → Type 0) → ((x : A) → P x → Q x) → (xs : List A) → All P xs → All Q xs
all_map P Q f [] h = tt
all_map P Q f (x ∷ xs) h = (f x h.0, all_map P Q f xs h.1)

pub all_append : {A : Type 0} (P : A → Type 0) (xs ys : List A) → All P xs → All P ys → All P (xs ++ ys)
all_append P [] ys h k = k
all_append P (x ∷ xs) ys h k = (h.0, all_append P xs ys h.1 k)

-- in front of the last one, or of none
pub last_of : {A : Type 0} (P : A → Type 0) (x : A) (xs : List A) → P x → Last P xs → Last P (x ∷ xs)
last_of P x [] h k = h
last_of P x (y ∷ ys) h k = k

pub last_behind : {A : Type 0} (P : A → Type 0) (x : A) (xs : List A) → Last P (x ∷ xs) → Last P xs
last_behind P x [] h = tt
last_behind P x (y ∷ ys) h = h
