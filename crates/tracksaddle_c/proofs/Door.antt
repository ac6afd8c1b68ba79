-- The exports ask for what the library's calls ask for, and promise what they promise: by computation, since the clauses are the same. So the demands, which
-- speak of the contracts of crate tracksaddle, speak of what C links.
use mathlib.Core.Path.{◌≡◌, refl}
use Rattle.tracksaddle.proofs.tracksaddle_judge.Reads as library_judge
use Rattle.tracksaddle_c.proofs.tracksaddle_judge.Reads as exported_judge
use Rattle.tracksaddle.proofs.tracksaddle_find_component.Reads as library_find_component
use Rattle.tracksaddle_c.proofs.tracksaddle_find_component.Reads as exported_find_component
use Rattle.tracksaddle.proofs.tracksaddle_read_piece.Reads as library_read_piece
use Rattle.tracksaddle_c.proofs.tracksaddle_read_piece.Reads as exported_read_piece
use Rattle.tracksaddle.proofs.tracksaddle_read_end.Reads as library_read_end
use Rattle.tracksaddle_c.proofs.tracksaddle_read_end.Reads as exported_read_end
use Rattle.tracksaddle.proofs.tracksaddle_check_book.Reads as library_check_book
use Rattle.tracksaddle_c.proofs.tracksaddle_check_book.Reads as exported_check_book
use Rattle.tracksaddle.proofs.tracksaddle_tally_add.Reads as library_tally_add
use Rattle.tracksaddle_c.proofs.tracksaddle_tally_add.Reads as exported_tally_add
use Rattle.tracksaddle.proofs.tracksaddle_tally_clear.Reads as library_tally_clear
use Rattle.tracksaddle_c.proofs.tracksaddle_tally_clear.Reads as exported_tally_clear

pub judge_asks : exported_judge.Pre ≡ library_judge.Pre
judge_asks = refl

pub judge_promises : exported_judge.Post ≡ library_judge.Post
judge_promises = refl

pub find_component_asks : exported_find_component.Pre ≡ library_find_component.Pre
find_component_asks = refl

pub find_component_promises : exported_find_component.Post ≡ library_find_component.Post
find_component_promises = refl

pub read_piece_asks : exported_read_piece.Pre ≡ library_read_piece.Pre
read_piece_asks = refl

pub read_piece_promises : exported_read_piece.Post ≡ library_read_piece.Post
read_piece_promises = refl

pub read_end_asks : exported_read_end.Pre ≡ library_read_end.Pre
read_end_asks = refl

pub read_end_promises : exported_read_end.Post ≡ library_read_end.Post
read_end_promises = refl

pub check_book_asks : exported_check_book.Pre ≡ library_check_book.Pre
check_book_asks = refl

pub check_book_promises : exported_check_book.Post ≡ library_check_book.Post
check_book_promises = refl

pub tally_add_asks : exported_tally_add.Pre ≡ library_tally_add.Pre
tally_add_asks = refl

pub tally_add_promises : exported_tally_add.Post ≡ library_tally_add.Post
tally_add_promises = refl

pub tally_clear_asks : exported_tally_clear.Pre ≡ library_tally_clear.Pre
tally_clear_asks = refl

pub tally_clear_promises : exported_tally_clear.Post ≡ library_tally_clear.Post
tally_clear_promises = refl
