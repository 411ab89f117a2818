-- How a run ends, from what is said of each status, and from how its text was printed.
use Rattle.std.proofs.Common.{ℕ, ◌≡◌, refl, sym, subst, inl, inr, List, []}
use Rattle.std.specs.Prelude.{Option, Some, None, Result, Ok, IfOk, ◌⊎◌}
use Rattle.std.proofs.lemmas.List.{append-nil}
use Rattle.run_core.specs.Outside.{Printed}
use Rattle.run_core.specs.Ends.{Prints, Grew, IsWriteFault, PrintEnds, RunEnds}
use Rattle.run_core.specs.declared.status.ToolStatus.{ToolStatus}
use Rattle.run_core.specs.declared.status.ToolStatus.TheVariants.{Done, No, Usage, Open, BadInput, ReadFault, WriteFault, Memory}

-- the text of the answer with this status was printed
abbrev pub PrintsAs : Printed → (List ℕ → ToolStatus → Type 0) → ToolStatus → ToolStatus → Type 0
PrintsAs p explain result status = result ≡ status → Prints p (λ text. explain text status)

pub run_ends : (p : Printed) (explain : List ℕ → ToolStatus → Type 0) (result : ToolStatus)
    → PrintsAs p explain result Done → PrintsAs p explain result No → PrintsAs p explain result Usage → PrintsAs p explain result Open
    → PrintsAs p explain result BadInput → PrintsAs p explain result ReadFault
    → (result ≡ WriteFault → IsWriteFault p explain ⊎ (explain [] WriteFault × Grew p.old p.new [])) → (result ≡ Memory → Grew p.old p.new [])
    → RunEnds p explain result
run_ends p explain Done done negative usage left bad read write memory = done refl
run_ends p explain No done negative usage left bad read write memory = negative refl
run_ends p explain Usage done negative usage left bad read write memory = usage refl
run_ends p explain Open done negative usage left bad read write memory = left refl
run_ends p explain BadInput done negative usage left bad read write memory = bad refl
run_ends p explain ReadFault done negative usage left bad read write memory = read refl
run_ends p explain WriteFault done negative usage left bad read write memory = write refl
run_ends p explain Memory done negative usage left bad read write memory = memory refl

-- nothing was printed
pub grew_nothing : (old new : Option (List ℕ)) → new ≡ old → Grew old new []
grew_nothing None new e = tt
grew_nothing (Some bytes) new e = subst (λ (xs : List ℕ). new ≡ Some xs) (sym (append-nil bytes)) e

-- an explained text was to be printed; a write fault explains no text, and want of memory none at all
pub print_ends : (p : Printed) (explain : List ℕ → ToolStatus → Type 0) (text : List ℕ) (wanted status : ToolStatus)
    → ((said : List ℕ) → explain said WriteFault → said ≡ []) → ((said : List ℕ) → explain said Memory → ⊥)
    → explain text wanted → PrintEnds p wanted text status → RunEnds p explain status
print_ends p explain text wanted status empty none why (inl h) = subst (RunEnds p explain) (sym h.0) (whole wanted why)
  where
    whole : (wanted : ToolStatus) → explain text wanted → RunEnds p explain wanted
    whole Done why = record { text = text; why = why; grew = h.1 }
    whole No why = record { text = text; why = why; grew = h.1 }
    whole Usage why = record { text = text; why = why; grew = h.1 }
    whole Open why = record { text = text; why = why; grew = h.1 }
    whole BadInput why = record { text = text; why = why; grew = h.1 }
    whole ReadFault why = record { text = text; why = why; grew = h.1 }
    whole WriteFault why = inr (subst (λ said. explain said WriteFault) (empty text why) why, subst (Grew p.old p.new) (empty text why) h.1)
    whole Memory why = absurd (none text why)
print_ends p explain text wanted status empty none why (inr (inl h)) =
    subst (RunEnds p explain) (sym h.0)
    (inl (record { status = wanted; text = text; explained = why; rose = h.1; size = h.2.0; within = h.2.1; grew = h.2.2 }))
print_ends p explain text wanted status empty none why (inr (inr h)) = subst (RunEnds p explain) (sym h.0) h.1

-- a run whose outcome explains more
pub ends_weaker : (p : Printed) (explain other : List ℕ → ToolStatus → Type 0) (status : ToolStatus)
    → ((text : List ℕ) (status : ToolStatus) → explain text status → other text status) → RunEnds p explain status → RunEnds p other status
ends_weaker p explain other status more h = go status h
  where
    printed : (status : ToolStatus) → Prints p (λ text. explain text status) → Prints p (λ text. other text status)
    printed status h = record { text = h.text; why = more h.text status h.why; grew = h.grew }

    go : (status : ToolStatus) → RunEnds p explain status → RunEnds p other status
    go Done h = printed Done h
    go No h = printed No h
    go Usage h = printed Usage h
    go Open h = printed Open h
    go BadInput h = printed BadInput h
    go ReadFault h = printed ReadFault h
    go WriteFault (inl h) = inl (record { status = h.status; text = h.text; explained = more h.text h.status h.explained; rose = h.rose; size = h.size; within = h.within; grew = h.grew })
    go WriteFault (inr h) = inr (more [] WriteFault h.0, h.1)
    go Memory h = h

pub if_ok : {T E : Type 0} (r : Result T E) (x : T) (P : T → Type 0) → r ≡ Ok x → P x → IfOk r P
if_ok r x P e h = subst (λ s. IfOk s P) (sym e) h
