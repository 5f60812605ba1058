use Rattle.std.proofs.Common.{◌≡◌, ◌-◌, true, List, ◌++◌, length, take, drop, replicate, sym, refl, ap, ◌∙◌, subst, arith, length-append, length-drop}
use Rattle.std.specs.List.{AllByRecursion}
use Rattle.std.proofs.lemmas.List.{take_at, drop_at}
use Rattle.std.proofs.ByRecursion.{All-append, All-drop}
use Rattle.market.specs.declared.order.Order.{Order}
use Rattle.book.specs.Records.{balanced, free_record, Live}
use Rattle.book.specs.Places.{no_order}
use Rattle.book.proofs.Records.{pass_all, all_passes}
use Rattle.book.proofs.table.Table.replace.Goals as goal

front : (live ys rest : List Order) → ys ≡ live → take (length live) (ys ++ rest) ≡ live
front live ys rest e = take_at ys rest (length live) (ap length e) ∙ e

pub invariant_of-self : goal.invariant_of-self
invariant_of-self c =
    let live = c.args.live.now in
    let n = length live in
    let ys = c.copy_from_slice.new.self in
    let e : ys ≡ live = c.copy_from_slice.ensures.after in
    let blank = replicate 161 no_order in
    let rest = drop (n - 0) blank in
    let few = c.requires.live.few in
    let f = front live ys rest e in
    let now : Live (take n (ys ++ rest)) c.args.next = subst (λ (xs : List Order). Live xs c.args.next) (sym f) c.requires.live in record {
      long = omega (arith, length-append ys rest, length-drop (n - 0) blank, ap length e);
      few = few;
      sound = all_passes balanced (ys ++ rest) (All-append (λ (x : Order). balanced x ≡ true) ys rest (subst (AllByRecursion (λ (x : Order). balanced x ≡ true)) (sym e) c.requires.live.sound) (All-drop (λ (x : Order). balanced x ≡ true) (n - 0) blank (pass_all balanced blank refl)));
      free = all_passes free_record (drop n (ys ++ rest)) (subst (AllByRecursion (λ (x : Order). free_record x ≡ true)) (sym (drop_at ys rest n (ap length e))) (All-drop (λ (x : Order). free_record x ≡ true) (n - 0) blank (pass_all free_record blank refl)));
      rising = now.rising;
      books = now.books;
      rivals = now.rivals;
      customer = now.customer;
      numbers = now.numbers;
    }
