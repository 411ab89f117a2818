-- What a parse answers, by the kinds of error that it may give.
use Rattle.std.proofs.Common.{◌≡◌, ◌∙◌, ap, sym, inl, inr, arith, cond, List, [], ◌∷◌, false, Some, None}
use Rattle.clap.specs.Words.{App, Row, Text, fault_of, matches_of, kind_of}
use Rattle.clap.specs.Walk.{is_empty}
use Rattle.clap.specs.Kinds.{Kinds, HasKind, IsAmong}
use Rattle.clap.specs.declared.error.Error.{Error}
use Rattle.clap.specs.declared.error.kind.ErrorKind.{ErrorKind}
use Rattle.clap.specs.declared.error.kind.ErrorKind.TheVariants.{OutOfMemory}
use Rattle.command_words.specs.Matching.{matches_on}

pub taken : (form : App) (words : List Text) (rows : List Row) → fault_of form words ≡ [] → rows ≡ matches_of form words → Some rows ≡ matches_on form words
unfolding matches_on
taken form words rows none is = ap Some is ∙ ap (λ (ks : Kinds). cond (is_empty ks) (Some (matches_of form words)) None) (sym none)

some_kind : (k : ErrorKind) (ks : Kinds) → IsAmong k ks → is_empty ks ≡ false
some_kind k [] h = absurd h
some_kind k (x ∷ xs) h = grind arith

pub refused : (form : App) (words : List Text) (e : Error) → HasKind (fault_of form words) e → (kind_of e ≡ OutOfMemory → ⊥) → None ≡ matches_on form words
unfolding matches_on
refused form words e (inl memory) other = absurd (other memory)
refused form words e (inr among) other = sym (ap (λ b. cond b (Some (matches_of form words)) None) (some_kind (kind_of e) (fault_of form words) among))
