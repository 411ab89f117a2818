-- What a parse gives for an argument with a parser: each value of it passed that parser, and is read by it.
use Rattle.std.proofs.Common.{ℕ, suc, ◌≡◌, ◌<◌, ◌∙◌, ap, sym, subst, refl, inl, inr, arith, Bool, true, false, List, [], ◌∷◌, length, map, Option, Some, None, codes, is_some}
use Rattle.std.specs.Prelude.{option_map, slice_get}
use Rattle.std.specs.List.{All, list_all, slice_index_or}
use Rattle.std.specs.Str.{bytes_eq}
use Rattle.std.specs.Borrow.{Bor}
use Rattle.std.proofs.Math.ListN.{get_or-map}
use Rattle.std.proofs.lemmas.Bool.{and_parts}
use Rattle.std.proofs.lemmas.List.Elements.{All-get_or}
use Rattle.std.proofs.lemmas.Option.{none-some, same_Some, slice_get-map, slice_get_within, get_or_from_slice_get}
use Rattle.std.proofs.lemmas.Slice.Eq.{bytes_eq-Decides}
use Rattle.clap.specs.Words.{Accepts, App, Rule, Text, app_of, args_of, first_value, found_of, groups_of, matched_of, one_text, read_as, reading_of, rule_of, IsParsedFrom, IsPlain}
use Rattle.clap.specs.Built.{IsAuto}
use Rattle.clap.specs.Facts.{Entry, EntryPasses, HasReading, PassesArg, least_values, parser_of, parser_of_value, unwrap_or_range}
use Rattle.clap.specs.declared.builder.action.ArgAction.TheVariants.{Set}
use Rattle.clap.specs.Faults.{has_free_rules}
use Rattle.clap.specs.Simple.{IsSimple, is_ready, is_ready_leaf, shape_of}
use Rattle.clap.specs.declared.builder.arg.Arg.{Arg}
use Rattle.clap.specs.declared.builder.command.Command.{Command}
use Rattle.clap.specs.declared.builder.value_parser.Reading.{Reading}
use Rattle.clap.specs.declared.builder.value_parser.ValueParser.{ValueParser}
use Rattle.clap.specs.declared.parser.matches.ArgMatches.{ArgMatches}
use Rattle.clap.specs.declared.parser.matches.Found.{Found}
use Rattle.clap.specs.declared.parser.matches.MatchedArg.{MatchedArg}
use Rattle.clap.proofs.CallerLemmas.{entry_by_id, required_has_value, same_rules_by_id}
use Rattle.clap.proofs.FaultLemmas.{free_args}
use Rattle.clap.proofs.SimpleLemmas.{plain_fields, ready_simple, simple_groups}

-- a simple form whose arguments have no rule on another
pub record IsFreeForm (form : App) : Type 0 where
  pub ready : is_ready form.top ≡ true
  pub leaves : list_all is_ready_leaf form.subs ≡ true
  pub free : has_free_rules form.top ≡ true
  pub negates : form.top.subcommand_negates_reqs ≡ false

-- the argument stands at this place, and no other has its id
pub record StandsAt (form : App) (k : ℕ) (r : Rule) : Type 0 where
  pub there : slice_get form.top.rules k ≡ Some r
  pub alone : (j : ℕ) (e : Rule) → j < length form.top.rules → bytes_eq (slice_index_or form.top.rules j e).id r.id ≡ true → j ≡ k
  pub has_id : r.id ≡ [] → ⊥
  pub no_help : r.id ≡ codes "help" → ⊥
  pub no_version : r.id ≡ codes "version" → ⊥

-- nothing in the command excludes anything
pub plain_command : (c : Command) (form : App) → app_of c ≡ form → IsFreeForm form → IsPlain c
plain_command c form is f =
    let ready : is_ready (shape_of c) ≡ true = ap (λ (a : App). is_ready a.top) is ∙ f.ready in
    let simple : IsSimple c = ready_simple c ready (ap (λ (a : App). list_all is_ready_leaf a.subs) is ∙ f.leaves) in
    let free = free_args c simple (ap (λ (a : App). has_free_rules a.top) is ∙ f.free) in
    let groups = simple_groups c (and_parts _ _ (and_parts _ _ ready).0).1 in
    (λ k d lt. ((free k d lt).exclusive, (free k d lt).conflicts, (free k d lt).overrides, groups k d lt), simple.groups)

-- an argument of a command at this place, with this rule; no other has its id
pub record HasArgAt (c : Command) (k : ℕ) (r : Rule) : Type 0 where
  pub arg : Arg
  pub within : k < length (args_of c)
  pub rule : rule_of (slice_index_or (args_of c) k arg) ≡ r
  pub alone : (j : ℕ) (e : Arg) → j < length (args_of c) → bytes_eq (slice_index_or (args_of c) j e).id.now (slice_index_or (args_of c) k arg).id.now ≡ true → j ≡ k
  pub own : IsAuto (slice_index_or (args_of c) k arg) → ⊥

-- what stands at a place of a mapped list is the image of what stands there
image_at : {X Y : Type 0} (f : X → Y) (xs : List X) (ys : List Y) (k : ℕ) (y : Y) → map f xs ≡ ys → slice_get ys k ≡ Some y → (x : X) × (slice_get xs k ≡ Some x) × (f x ≡ y)
image_at {X} {Y} f xs ys k y images there = go (slice_get xs k) refl
  where
    found : option_map f (slice_get xs k) ≡ Some y
    found = sym (slice_get-map f xs k) ∙ ap (λ (l : List Y). slice_get l k) images ∙ there

    go : (o : Option X) → slice_get xs k ≡ o → (x : X) × (slice_get xs k ≡ Some x) × (f x ≡ y)
    go None e = absurd (none-some y (sym (ap (option_map f) e) ∙ found))
    go (Some x) e = (x, e, same_Some (f x) y (sym (ap (option_map f) e) ∙ found))

same_length : {X Y : Type 0} (f : X → Y) (xs : List X) → length (map f xs) ≡ length xs
same_length f [] = refl
same_length f (x ∷ xs) = ap suc (same_length f xs)

-- what is alone with its text among the images is alone with it
alone_in : {X Y : Type 0} (f : X → Y) (id : Y → Text) (xs : List X) (ys : List Y) (k : ℕ) (t : Text) → map f xs ≡ ys
    → ((j : ℕ) (e : Y) → j < length ys → bytes_eq (id (slice_index_or ys j e)) t ≡ true → j ≡ k)
    → (j : ℕ) (d : X) → j < length xs → bytes_eq (id (f (slice_index_or xs j d))) t ≡ true → j ≡ k
alone_in {X} {Y} f id xs ys k t images alone j d lt same =
    let at : slice_index_or ys j (f d) ≡ f (slice_index_or xs j d) = ap (λ (l : List Y). slice_index_or l j (f d)) (sym images) ∙ get_or-map f xs j d in
    alone j (f d) (subst (λ n. j < n) (sym (same_length f xs) ∙ ap length images) lt)
    (subst (λ (y : Y). bytes_eq (id y) t ≡ true) (sym at) same)

pub arg_at : (c : Command) (form : App) (k : ℕ) (r : Rule) → app_of c ≡ form → StandsAt form k r → HasArgAt c k r
arg_at c form k r is s =
    let rules_are : map rule_of (args_of c) ≡ form.top.rules = ap (λ (a : App). a.top.rules) is in
    let a = image_at rule_of (args_of c) form.top.rules k r rules_are s.there in
    let here : slice_index_or (args_of c) k a.0 ≡ a.0 = get_or_from_slice_get (args_of c) k a.0 a.0 a.1 in
    let rule : rule_of (slice_index_or (args_of c) k a.0) ≡ r = ap rule_of here ∙ a.2 in
    let id : (slice_index_or (args_of c) k a.0).id.now ≡ r.id = ap (λ (x : Rule). x.id) rule in
    record {
      arg = a.0;
      within = slice_get_within (args_of c) k a.0 a.1;
      rule = rule;
      alone = λ j d lt same. alone_in rule_of (λ (x : Rule). x.id) (args_of c) form.top.rules k r.id rules_are s.alone j d lt
          (subst (λ (x : Text). bytes_eq (slice_index_or (args_of c) j d).id.now x ≡ true) id same);
      own = λ auto. elim auto [ inl h ↦ s.no_help (sym id ∙ h) | inr h ↦ s.no_version (sym id ∙ h) ];
    }

-- the text that is read of an argument is what its parser reads of a value that passed it
pub record IsReadBy (ignore_case : Bool) (q : ValueParser) (t : Text) : Type 0 where
  pub word : Text
  pub passed : Accepts ignore_case q word
  pub is : t ≡ read_as (reading_of q) word

first_read : (P : Text → Type 0) (how : Reading) (vals : List (Bor Text)) (t : Text) → All (λ v. P v.now) vals → option_map (λ s. read_as how s.now) (slice_get vals 0) ≡ Some t
    → (w : Text) × P w × (t ≡ read_as how w)
first_read P how [] t all e = cc
first_read P how (v ∷ vs) t all e =
    let same : t ≡ read_as how v.now = cc in
    (v.now, All-get_or (λ (x : Bor Text). P x.now) (v ∷ vs) 0 v (omega arith) all, same)

entry_read : (c : Command) (id : Text) (ignore_case : Bool) (q : ValueParser) (e : Entry) → groups_of c ≡ [] → (id ≡ [] → ⊥)
    → ((v : Text) → PassesArg c id v → Accepts ignore_case q v) → ((h : Reading) → HasReading c id h → h ≡ reading_of q)
    → e.0.now ≡ id → EntryPasses c e → (t : Text) → option_map (λ s. read_as e.1.reading s.now) (slice_get e.1.vals.items 0) ≡ Some t → IsReadBy ignore_case q t
entry_read c id ignore_case q e no_groups has_id passes reads key entry t got =
    let no_group : e.1.is_group ≡ true → ⊥ = λ g. elim (entry.3 g) [
      | inl empty ↦ has_id (sym key ∙ empty)
      | inr lots ↦ let bad : 0 < 0 = subst (λ n. 0 < n) (ap length no_groups) lots in absurd (omega arith)
    ] in
    let all : All (λ v. PassesArg c id v.now) e.1.vals.items = elim entry.0 [
      | inl g ↦ absurd (no_group g)
      | inr vals ↦ subst (λ (w : Text). All (λ v. PassesArg c w v.now) e.1.vals.items) key vals
    ] in
    let how : e.1.reading ≡ reading_of q = elim entry.4 [
      | inl g ↦ absurd (no_group g)
      | inr h ↦ reads e.1.reading (subst (λ (w : Text). HasReading c w e.1.reading) key h)
    ] in
    let r = first_read (PassesArg c id) e.1.reading e.1.vals.items t all got in
    record { word = r.0; passed = passes r.0 r.1; is = r.2 ∙ ap (λ h. read_as h r.0) how }

pub value_read : (c : Command) (m : ArgMatches) (form : App) (k : ℕ) (r : Rule) (q : ValueParser) → app_of c ≡ form → IsFreeForm form → StandsAt form k r → r.parser ≡ Some q
    → IsParsedFrom c m → (t : Text) → one_text (found_of m) r.id ≡ Some t → IsReadBy r.ignore_case q t
value_read c m form k r q is free stands parser p t got = go (matched_of (found_of m) r.id) refl
  where
    at : HasArgAt c k r
    at = arg_at c form k r is stands

    arg : Arg
    arg = slice_index_or (args_of c) k at.arg

    id : arg.id.now ≡ r.id
    id = ap (λ (x : Rule). x.id) at.rule

    its_parser : arg.value_parser ≡ Some q
    its_parser = ap (λ (x : Rule). x.parser) at.rule ∙ parser

    passes : (v : Text) → PassesArg p.built r.id v → Accepts r.ignore_case q v
    passes v any =
        let s = same_rules_by_id c m p k at.arg at.within at.alone at.own any.0 any.1 any.2 any.3 (subst (λ (w : Text). bytes_eq any.1.id.now w ≡ true) (sym id) any.4.0) in
        let same : parser_of any.1 ≡ q = ap parser_of_value (s.parser q its_parser) in
        subst (λ b. Accepts b q v) (s.ignore_case ∙ ap (λ (x : Rule). x.ignore_case) at.rule) (subst (λ (w : ValueParser). Accepts any.1.ignore_case w v) same any.4.1)

    reads : (h : Reading) → HasReading p.built r.id h → h ≡ reading_of q
    reads h any =
        let s = same_rules_by_id c m p k at.arg at.within at.alone at.own any.0 any.1 any.2 any.3 (subst (λ (w : Text). bytes_eq any.1.id.now w ≡ true) (sym id) any.4.0) in
        sym any.4.1 ∙ ap reading_of (ap parser_of_value (s.parser q its_parser))

    go : (o : Option MatchedArg) → matched_of (found_of m) r.id ≡ o → IsReadBy r.ignore_case q t
    go None e = let bad : None ≡ Some t = rw e at got in cc
    go (Some x) e =
        let plain = plain_command c form is free in
        let globals = (plain_fields c (and_parts _ _ (and_parts _ _ (ap (λ (a : App). is_ready a.top) is ∙ free.ready)).0).0).globals in
        let parsed = p.parsed (p.from.globals ∙ globals) in
        let entry = entry_by_id (EntryPasses p.built) (found_of m).entries.items r.id x parsed.values e in
        let first : option_map (λ s. read_as x.reading s.now) (slice_get x.vals.items 0) ≡ Some t = rw e at got in
        entry_read p.built r.id r.ignore_case q entry.0 (p.from.plain plain).1 stands.has_id passes reads ((bytes_eq-Decides entry.0.0.now r.id).0 entry.2) entry.3 t
        (subst (λ (y : MatchedArg). option_map (λ s. read_as y.reading s.now) (slice_get y.vals.items 0) ≡ Some t) (sym entry.1) first)

-- a required argument that takes one value has one
pub value_there : (c : Command) (m : ArgMatches) (form : App) (k : ℕ) (r : Rule) → app_of c ≡ form → IsFreeForm form → StandsAt form k r → r.required ≡ true → r.action ≡ Some Set → r.range ≡ None
    → IsParsedFrom c m → is_some (first_value (found_of m) r.id) ≡ true
value_there c m form k r is free stands required set range p =
    let at = arg_at c form k r is stands in
    let arg = slice_index_or (args_of c) k at.arg in
    let ready : is_ready (shape_of c) ≡ true = ap (λ (a : App). is_ready a.top) is ∙ free.ready in
    let simple : IsSimple c = ready_simple c ready (ap (λ (a : App). list_all is_ready_leaf a.subs) is ∙ free.leaves) in
    let values : arg.num_vals ≡ None = ap (λ (x : Rule). x.range) at.rule ∙ range in
    let least : least_values arg ≡ 1 = ap (λ o. (unwrap_or_range o).start_inclusive) values in
    let id : arg.id.now ≡ r.id = ap (λ (x : Rule). x.id) at.rule in
    subst (λ (w : Text). is_some (first_value (found_of m) w) ≡ true) id
    (required_has_value c m p (plain_command c form is free) simple.globals (ap (λ (a : App). a.top.subcommand_negates_reqs) is ∙ free.negates) k at.arg at.within
    (ap (λ (x : Rule). x.required) at.rule ∙ required) (ap (λ (x : Rule). x.action) at.rule ∙ set) (simple.args k at.arg at.within).delimiter (omega (arith, least)) at.alone
    (λ empty. stands.has_id (sym id ∙ empty)) at.own)

-- where a value is there, a text is read
pub text_there : (f : Found) (id : Text) → is_some (first_value f id) ≡ true → (t : Text) × (one_text f id ≡ Some t)
text_there f id has = go (matched_of f id) refl has
  where
    first : (x : MatchedArg) (vals : List (Bor Text)) → is_some (option_map (λ s. s.now) (slice_get vals 0)) ≡ true → (t : Text) × (option_map (λ s. read_as x.reading s.now) (slice_get vals 0) ≡ Some t)
    first x [] h = cc
    first x (v ∷ vs) h = (read_as x.reading v.now, refl)

    go : (o : Option MatchedArg) → matched_of f id ≡ o → is_some (first_value f id) ≡ true → (t : Text) × (one_text f id ≡ Some t)
    go None e h = let bad : false ≡ true = rw e at h in cc
    go (Some x) e h = let r = first x x.vals.items (rw e at h) in (r.0, rw e r.1)
