use Rattle.std.proofs.Common.{◌≡◌, ℕ, ◌+◌, ◌≤◌, true, List, [], ◌∷◌, ◌++◌, length, take, drop, set, sym, ◌∙◌, subst, arith}
use Rattle.std.specs.List.{AllByRecursion}
use Rattle.std.proofs.lemmas.List.{length-set, length-append, length-take-le, take_more_set, drop-drop, drop-set-lt}
use Rattle.std.proofs.ByRecursion.{all-has, All-set, All-drop, has_push}
use Rattle.market.specs.declared.order.Order.{Order}
use Rattle.book.specs.Records.{balanced, free_record, Live}
use Rattle.book.proofs.Records.{pass_all, all_passes}
use Rattle.book.proofs.table.Table.append.Goals as goal

room : (records : List Order) (count next : ℕ) (o : Order) → count ≤ length records → Live (take count records ++ (o ∷ [])) next → count + 1 ≤ 161
room records count next o le l = let few = l.few in omega (arith, length-append (take count records) (o ∷ []), length-take-le count records le)

pub invariant_of-self : goal.invariant_of-self
invariant_of-self c =
    let t = c.args.self.now in
    let o = c.args.order in
    let live = take t.count t.records in
    let few = t.few in
    let long = t.long in
    let one = room t.records t.count (t.next + 1) o (omega arith) c.requires.live in
    let e = take_more_set t.records t.count o (omega arith) in
    let grown : Live (take (t.count + 1) (set t.records t.count o)) (o.number + 1) =
    subst (λ (n : ℕ). Live (take (t.count + 1) (set t.records t.count o)) (n + 1)) (sym c.requires.unused) (subst (λ (xs : List Order). Live xs (t.next + 1)) (sym e) c.requires.live) in
    let fine : balanced o ≡ true = all-has (λ (x : Order). balanced x ≡ true) (live ++ (o ∷ [])) o c.requires.live.sound (has_push live o) in record {
      long = length-set t.records t.count o ∙ t.long;
      few = omega arith;
      sound = all_passes balanced (set t.records t.count o) (All-set (λ (x : Order). balanced x ≡ true) t.records t.count o fine (pass_all balanced t.records t.sound));
      free = all_passes free_record (drop (t.count + 1) (set t.records t.count o)) (subst (AllByRecursion (λ (x : Order). free_record x ≡ true)) (drop-drop 1 t.count t.records ∙ sym (drop-set-lt (t.count + 1) t.records t.count o (omega arith))) (All-drop (λ (x : Order). free_record x ≡ true) 1 (drop t.count t.records) (pass_all free_record (drop t.count t.records) t.free)));
      rising = grown.rising;
      books = grown.books;
      rivals = grown.rivals;
      customer = grown.customer;
      numbers = grown.numbers;
    }
