-- What is known where a chain of readings ended well.
use Rattle.std.proofs.Common.{ℕ, ◌≡◌, Bool, true, false, cond, List, length, refl, ap, sym, ◌∙◌}
use Rattle.std.specs.Prelude.{◌&&◌, nat_le, nat_lt, Option, Some, None, Result, Ok, Err}
use Rattle.std.proofs.lemmas.Bool.{and_parts}
use Rattle.input_core.specs.Fields.{◌>>=◌, or_fault, within, below, number_in, number_below, name_of, in_line, Fails}
use Rattle.input_core.specs.Lines.{number_of}
use Rattle.input_core.specs.declared.faults.LineFault.{LineFault}
use Rattle.input_core.specs.declared.faults.LineKind.{LineKind}
use Rattle.input_core.specs.declared.faults.TextFault.{TextFault}
use Rattle.input_core.specs.declared.faults.TextFault.TheVariants as text_faults

pub bind-ok : {A B E : Type 0} (r : Result A E) (f : A → Result B E) (x : A) → r ≡ Ok x → (r >>= f) ≡ f x
bind-ok r f x e = ap (λ r. r >>= f) e

pub bind-err : {A B E : Type 0} (r : Result A E) (f : A → Result B E) (fault : E) → r ≡ Err fault → (r >>= f) ≡ Err fault
bind-err r f fault e = ap (λ r. r >>= f) e

-- a first part that fails
pub fails-first : {A B : Type 0} (fault : TextFault) (r : Result A LineFault) (f : A → Result B LineFault) → Fails fault r → Fails fault (r >>= f)
fails-first text_faults.Memory r f h = tt
fails-first (text_faults.Line fault) r f h = bind-err r f fault h

-- a later part that fails
pub fails-then : {A B : Type 0} (fault : TextFault) (r : Result A LineFault) (f : A → Result B LineFault) (x : A) → r ≡ Ok x → Fails fault (f x) → Fails fault (r >>= f)
fails-then text_faults.Memory r f x e h = tt
fails-then (text_faults.Line fault) r f x e h = bind-ok r f x e ∙ h

-- the two parts of a chain
pub record Chained {A B E : Type 0} (r : Result A E) (f : A → Result B E) (y : B) : Type 0 where
  pub first : A
  pub is : r ≡ Ok first
  pub rest : f first ≡ Ok y

pub chained : {A B E : Type 0} (r : Result A E) (f : A → Result B E) (y : B) → (r >>= f) ≡ Ok y → Chained r f y
chained (Ok x) f y e = record { first = x; is = refl; rest = e }
chained (Err fault) f y e = cc

pub ok-same : {A E : Type 0} (x y : A) → (let r : Result A E = Ok x in r ≡ Ok y) → x ≡ y
ok-same x y e = cc

-- a value where a test holds, and else a fault
pub if-ok : {A E : Type 0} (t : Bool) (x y : A) (fault : E) → cond t (Ok x) (Err fault) ≡ Ok y → (t ≡ true) × (x ≡ y)
if-ok true x y fault e = (refl, cc)
if-ok false x y fault e = cc

-- a fault where a test holds, and else a value
pub unless-ok : {A E : Type 0} (t : Bool) (x y : A) (fault : E) → cond t (Err fault) (Ok x) ≡ Ok y → (t ≡ false) × (x ≡ y)
unless-ok true x y fault e = cc
unless-ok false x y fault e = (refl, cc)

pub then-ok : {A E : Type 0} (t : Bool) (r : Result A E) (y : A) (fault : E) → cond t r (Err fault) ≡ Ok y → (t ≡ true) × (r ≡ Ok y)
then-ok true r y fault e = (refl, e)
then-ok false r y fault e = cc

pub else-ok : {A E : Type 0} (t : Bool) (r : Result A E) (y : A) (fault : E) → cond t (Err fault) r ≡ Ok y → (t ≡ false) × (r ≡ Ok y)
else-ok true r y fault e = cc
else-ok false r y fault e = (refl, e)

pub or_fault-ok : {A : Type 0} (o : Option A) (kind : LineKind) (x : A) → or_fault o kind ≡ Ok x → o ≡ Some x
or_fault-ok None kind x e = cc
or_fault-ok (Some z) kind x e = ap Some (ok-same z x e)

pub in_line-ok : {A : Type 0} (line : ℕ) (r : Result A LineKind) (x : A) → in_line line r ≡ Ok x → r ≡ Ok x
in_line-ok line (Ok z) x e = ap Ok (ok-same z x e)
in_line-ok line (Err kind) x e = cc

pub both : (a b : Bool) → a ≡ true → b ≡ true → (a && b) ≡ true
both a b e f = rw (e, f) refl

pub number_in-ok : (low high : ℕ) (field : List ℕ) (n : ℕ) → number_in low high field ≡ Ok n → (nat_le low n ≡ true) × (nat_le n high ≡ true)
number_in-ok low high field n e =
    let k = chained (or_fault (number_of field) _) (within low high) n e in
    let t = if-ok (nat_le low k.first && nat_le k.first high) k.first n _ k.rest in
    let parts = and_parts (nat_le low k.first) (nat_le k.first high) t.0 in
    (ap (nat_le low) (sym t.1) ∙ parts.0, ap (λ m. nat_le m high) (sym t.1) ∙ parts.1)

pub number_below-ok : (limit : ℕ) (field : List ℕ) (n : ℕ) → number_below limit field ≡ Ok n → nat_lt n limit ≡ true
number_below-ok limit field n e =
    let k = chained (or_fault (number_of field) _) (below limit) n e in
    let t = if-ok (nat_lt k.first limit) k.first n _ k.rest in
    ap (λ m. nat_lt m limit) (sym t.1) ∙ t.0

pub name_of-ok : (field name : List ℕ) → name_of field ≡ Ok name → (nat_lt 64 (length field) ≡ false) × (field ≡ name)
name_of-ok field name e = unless-ok (nat_lt 64 (length field)) field name _ e
