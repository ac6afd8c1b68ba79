-- Where a message's segments start. 01: "tag offsets".
use Rattle.std.specs.Prelude.{ℕ, List, [], ◌∷◌, ◌++◌, length}
use Rattle.reading.specs.meaning.Message.{Message, render}
use Rattle.reading.specs.declared.service.Service.{Service}

-- of a message's segments behind those before them: each starts behind what is written of the others
unfoldable pub starts_in : Service → Message → Message → List ℕ
starts_in s before [] = []
starts_in s before (g ∷ gs) = length (render s before) ∷ starts_in s (before ++ (g ∷ [])) gs

abbrev pub starts_of : Service → Message → List ℕ
starts_of s m = starts_in s [] m
