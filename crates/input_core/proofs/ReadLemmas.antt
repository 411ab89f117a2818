-- A piece added to what was read so far.
use Rattle.std.proofs.Common.{ℕ, ◌≡◌, ◌+◌, ◌-◌, ◌<◌, ◌≤◌, List, [], ◌++◌, append_assoc, append-nil, length, take, drop, refl, sym, ◌∙◌, ap, subst, arith, length-append, Bool}
use Rattle.std.specs.Prelude.{Option, Some, None, IsTrue, Ok}
use Rattle.std.proofs.lemmas.List.{length-take-le, length-drop, take_all}
use Rattle.std.proofs.lemmas.Bool.{cases_lt}
use Rattle.std.proofs.Math.Seq.{take-add}
use Rattle.std.proofs.Common.{inl, inr}
use Rattle.input_core.specs.Shelf.{IsPiece, GivesPiece, OnlyReads}
use Rattle.input_core.specs.declared.read.ReadRefusal.{ReadRefusal}
use Rattle.input_core.specs.declared.read.ReadRefusal.TheVariants.{Fault, TooLong, Memory}
use Rattle.input_core.specs.Reading.{AddsPiece, IsWhole}
use Rattle.input_core.specs.Taking.{IsFront, TakesWhole, TakesSome, TakesFront, TakesPiece, LeavesTaker}

piece_of : (held : Option (List ℕ)) (all : List ℕ) (at n : ℕ) (buf : List ℕ) → held ≡ Some all → GivesPiece held at buf (Ok n) → IsPiece all at buf n
piece_of held all at n buf e given = subst (λ h. GivesPiece h at buf (Ok n)) e given

pub AddsPiece-from : (tells : Bool) (held : Option (List ℕ)) (limit : ℕ) (old buf : List ℕ) (n : ℕ)
    → (IsTrue tells → GivesPiece held (length old) buf (Ok n)) → n ≤ length buf → 0 < length buf → length old + length buf ≤ limit + 1
    → AddsPiece tells held limit old (old ++ take n buf) n
AddsPiece-from tells held limit old buf n given within some fits =
    let len : length (take n buf) ≡ n = length-take-le n buf within in
    let lens : length (old ++ take n buf) ≡ length old + n = length-append old (take n buf) ∙ ap (λ k. length old + k) len in
    record {
      longer = lens;
      within = omega arith;
      next = λ told all e front. rw (lens, take-add (length old) n all, ← (piece_of held all (length old) n buf e (given told)).same) (ap (λ xs. xs ++ take n buf) front);
      some = λ told all e none. let p = piece_of held all (length old) n buf e (given told) in
          elim (cases_lt (length old) (length all)) [ inl more ↦ absurd (omega (arith, p.some some more)) | inr end ↦ end ];
      known = λ told e. subst (λ h. GivesPiece h (length old) buf (Ok n)) e (given told);
    }

pub OnlyReads-then : {S : Type 0} (tells : S → Bool) (held : S → List ℕ → Option (List ℕ)) (piece_faults put_faults : S → ℕ) (a b c : S)
    → OnlyReads tells held piece_faults put_faults a b → OnlyReads tells held piece_faults put_faults b c → OnlyReads tells held piece_faults put_faults a c
OnlyReads-then tells held piece_faults put_faults a b c first second = record {
  same_telling = second.same_telling ∙ first.same_telling;
  same_names = λ name. second.same_names name ∙ first.same_names name;
  same_puts = second.same_puts ∙ first.same_puts;
  later = omega (arith, first.later, second.later);
}

pub AddsPiece-at : (tells tells' : Bool) (held held' : Option (List ℕ)) (limit n : ℕ) (old new : List ℕ) → tells' ≡ tells → held' ≡ held → AddsPiece tells' held' limit old new n → AddsPiece tells held limit old new n
AddsPiece-at tells tells' held held' limit n old new e f added = subst (λ t. AddsPiece t held limit old new n) e (subst (λ h. AddsPiece tells' h limit old new n) f added)

IsWhole-from : (tells : Bool) (held : Option (List ℕ)) (limit n : ℕ) (old new : List ℕ) → n ≡ 0 → AddsPiece tells held limit old new n → IsFront tells held limit old → IsWhole tells held limit new
IsWhole-from tells None limit n old new none added front = record {
  short = omega (arith, added.longer, front.short);
  whole = λ told. absurd (added.known told refl);
}
IsWhole-from tells (Some all) limit n old new none added front = record {
  short = omega (arith, added.longer, front.short);
  whole = λ told.
      let same = added.next told all refl (front.front told all refl) in
      let ends = added.some told all refl none in
      ap Some (sym (take_all (length new) all (omega (arith, added.longer))) ∙ sym same);
}

-- a buffer whose front was filled anew
pub refilled : (n : ℕ) (front buf : List ℕ) → n ≡ length buf → length (take n (front ++ drop (length front) buf)) ≡ n
refilled n front buf e = length-take-le n (front ++ drop (length front) buf) (omega (arith, e, length-append front (drop (length front) buf), length-drop (length front) buf))

-- a piece that was handed over
pub TakesPiece-from : (tells : Bool) (held : Option (List ℕ)) (limit done n : ℕ) (buf : List ℕ) (old new : List ℕ → Type 0)
    → (IsTrue tells → GivesPiece held done buf (Ok n)) → n ≤ length buf → 0 < length buf → done + length buf ≤ limit + 1 → n ≤ limit - done → done ≤ limit
    → ((before : List ℕ) → old before → new (before ++ take n buf)) → TakesPiece tells held limit done old new n
TakesPiece-from tells held limit done n buf old new given within some fits few low stands = record {
  piece = take n buf;
  within = omega arith;
  adds = λ bytes size. AddsPiece-from tells held limit bytes buf n (λ told. subst (λ (k : ℕ). GivesPiece held k buf (Ok n)) (sym size) (given told)) within some (omega (arith, size));
  stands = stands;
}

-- what was handed over so far
pub record TakesSoFar (tells : Bool) (held : Option (List ℕ)) (limit : ℕ) (old new : List ℕ → Type 0) (done : ℕ) : Type 0 where
  pub some : TakesSome tells held limit old new
  pub size : length some.bytes ≡ done

pub takes_none : (tells : Bool) (held : Option (List ℕ)) (limit : ℕ) (old : List ℕ → Type 0) → TakesSoFar tells held limit old old 0
takes_none tells held limit old = record {
  some = record { bytes = []; front = record { short = omega arith; front = λ told all e. refl; none = λ told e. refl }; stands = λ before h. subst old (sym (append-nil before)) h };
  size = refl;
}

handed : (old mid new : List ℕ → Type 0) (bytes piece : List ℕ) → ((before : List ℕ) → old before → mid (before ++ bytes)) → ((before : List ℕ) → mid before → new (before ++ piece))
    → (before : List ℕ) → old before → new (before ++ (bytes ++ piece))
handed old mid new bytes piece f g before h = subst new (append_assoc before bytes piece) (g (before ++ bytes) (f before h))

pub takes_more : (tells tells' : Bool) (held held' : Option (List ℕ)) (limit done n : ℕ) (old mid new : List ℕ → Type 0) → tells' ≡ tells → held' ≡ held
    → TakesSoFar tells held limit old mid done → TakesPiece tells' held' limit done mid new n → TakesSoFar tells held limit old new (done + n)
takes_more tells tells' held held' limit done n old mid new e f far piece =
    let bytes = far.some.bytes in
    let added = AddsPiece-at tells tells' held held' limit n bytes (bytes ++ piece.piece) e f (piece.adds bytes far.size) in
    record {
      some = record {
        bytes = bytes ++ piece.piece;
        front = record {
          short = omega (arith, added.longer, far.size, piece.within);
          front = λ told all g. added.next told all g (far.some.front.front told all g);
          none = λ told g. absurd (added.known told g);
        };
        stands = handed old mid new bytes piece.piece far.some.stands piece.stands;
      };
      size = omega (arith, added.longer, far.size);
    }

pub takes_whole : (tells tells' : Bool) (held held' : Option (List ℕ)) (limit done n : ℕ) (old mid new : List ℕ → Type 0) → tells' ≡ tells → held' ≡ held → n ≡ 0
    → TakesSoFar tells held limit old mid done → TakesPiece tells' held' limit done mid new n → TakesWhole tells held limit old new done
takes_whole tells tells' held held' limit done n old mid new e f none far piece =
    let bytes = far.some.bytes in
    let added = AddsPiece-at tells tells' held held' limit n bytes (bytes ++ piece.piece) e f (piece.adds bytes far.size) in
    record {
      bytes = bytes ++ piece.piece;
      whole = IsWhole-from tells held limit n bytes (bytes ++ piece.piece) none added far.some.front;
      size = omega (arith, added.longer, far.size, none);
      stands = handed old mid new bytes piece.piece far.some.stands piece.stands;
    }

left : (tells : Bool) (held : Option (List ℕ)) (limit : ℕ) (old mid new : List ℕ → Type 0) → TakesSome tells held limit old mid → ((before : List ℕ) → mid before → new before) → TakesSome tells held limit old new
left tells held limit old mid new some stays = record { bytes = some.bytes; front = some.front; stands = λ before h. stays (before ++ some.bytes) (some.stands before h) }

pub takes_front : (tells : Bool) (held : Option (List ℕ)) (limit done : ℕ) (old mid new : List ℕ → Type 0) (e : ReadRefusal) → TakesSoFar tells held limit old mid done → LeavesTaker mid new e → TakesFront tells held limit old new e
takes_front tells held limit done old mid new Fault far stays = left tells held limit old mid new far.some stays
takes_front tells held limit done old mid new (TooLong taken) far stays = left tells held limit old mid new far.some stays
takes_front tells held limit done old mid new Memory far stays = record {}
