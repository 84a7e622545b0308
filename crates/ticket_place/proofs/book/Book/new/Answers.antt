use Rattle.std.proofs.Common.{rules}
use Rattle.ticket_place.proofs.Keeps.{opens}
use Rattle.ticket_place.proofs.book.Book.new.Goals as goal

pub of_words-requires : goal.of_words-requires
of_words-requires c = opens _ (search rules)
