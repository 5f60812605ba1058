-- The worked books, computed from the definitions over the whole grid: one lemma a book.
use Rattle.std.proofs.Common.{refl}
use Rattle.rules.specs.Opening.{grid}
use Rattle.rules.specs.Books.{Holds, BooksHold, book1, book2, book3, book4, book5a, book5b, book5c, book5d, book6, book6_sent, book6_returned, book7_time, book7_pro_rata}

holds1 : Holds book1
unfolding grid
holds1 = (refl, refl)

holds2 : Holds book2
unfolding grid
holds2 = (refl, refl)

holds3 : Holds book3
unfolding grid
holds3 = (refl, refl)

holds4 : Holds book4
unfolding grid
holds4 = (refl, refl)

holds5a : Holds book5a
unfolding grid
holds5a = (refl, refl)

holds5b : Holds book5b
unfolding grid
holds5b = (refl, refl)

holds5c : Holds book5c
unfolding grid
holds5c = (refl, refl)

holds5d : Holds book5d
unfolding grid
holds5d = (refl, refl)

holds6 : Holds book6
unfolding grid
holds6 = (refl, refl)

holds6_sent : Holds book6_sent
unfolding grid
holds6_sent = (refl, refl)

holds6_returned : Holds book6_returned
unfolding grid
holds6_returned = (refl, refl)

holds7_time : Holds book7_time
unfolding grid
holds7_time = (refl, refl)

holds7_pro_rata : Holds book7_pro_rata
unfolding grid
holds7_pro_rata = (refl, refl)

pub books_hold : BooksHold
books_hold = record {
  every_book = (holds1, (holds2, (holds3, (holds4, (holds5a, (holds5b, (holds5c, (holds5d, (holds6, (holds6_sent, (holds6_returned, (holds7_time, (holds7_pro_rata, tt)))))))))))));
  no_surplus = refl;
  total_by_time = refl;
  total_pro_rata = refl;
  book8 = refl;
}
