-- What is appended piece by piece is the text.
use Rattle.std.proofs.Common.{ℕ, ◌≡◌, ◌+◌, ◌<◌, arith, sym, ◌∙◌, ap, zero, suc, List, [], ◌∷◌, ◌++◌, append_assoc, append-nil, map, length, get_or, drop}
use Rattle.std.specs.Fmt.{decimal, signed_decimal}
use Rattle.duality.specs.declared.leaf.Leaf.{Leaf}
use Rattle.duality.specs.declared.leaf.Node.TheVariants.{Leaf as Closing}
use Rattle.cert_text.specs.declared.lines.Tree.{Tree}
use Rattle.cert_text.specs.declared.lines.Certificate.{Certificate}
use Rattle.cert_text.specs.declared.lines.CertLine.{CertLine}
use Rattle.cert_text.specs.declared.lines.CertLine.TheVariants as lines
use Rattle.cert_text.specs.Numbers.{joined}
use Rattle.cert_text.specs.Spelling.{line_text, term_fields}
use Rattle.cert_text.specs.Grammar.{blocks, open_block}
use Rattle.cert_text.specs.Text.{fed, text_of}
use Rattle.cert_text.specs.Writing.{blank_before, lined}
use Rattle.cert_text.proofs.TextLaws.{map-append, fed-append}

pub joined_blank : (w : List ℕ) (fs : List (List ℕ)) → joined 32 (w ∷ fs) ≡ w ++ blank_before fs
joined_blank w [] = sym (append-nil w)
joined_blank w (f ∷ fs) = ap (λ x. w ++ (32 ∷ x)) (joined_blank f fs)

-- a word, a field, more fields and a line feed
pub field_line : (b0 b1 b2 b3 b4 w f : List ℕ) (fs : List (List ℕ)) → b1 ≡ b0 ++ w → b2 ≡ b1 ++ (32 ∷ f) → b3 ≡ b2 ++ blank_before fs → b4 ≡ b3 ++ (10 ∷ []) → b4 ≡ b0 ++ lined (joined 32 (w ∷ (f ∷ fs)))
field_line b0 b1 b2 b3 b4 w f fs e1 e2 e3 e4 =
    let all : b4 ≡ (((b0 ++ w) ++ (32 ∷ f)) ++ blank_before fs) ++ (10 ∷ []) =
    e4 ∙ ap (λ b. b ++ (10 ∷ [])) (e3 ∙ ap (λ b. b ++ blank_before fs) (e2 ∙ ap (λ b. b ++ (32 ∷ f)) e1)) in
    let flat : (((b0 ++ w) ++ (32 ∷ f)) ++ blank_before fs) ++ (10 ∷ []) ≡ b0 ++ ((w ++ (32 ∷ (f ++ blank_before fs))) ++ (10 ∷ [])) = simp append_assoc in
    all ∙ flat ∙ ap (λ x. b0 ++ (x ++ (10 ∷ []))) (sym (joined_blank w (f ∷ fs)))

-- a word, a field and more fields
field_text : (b0 b1 b2 b3 w f : List ℕ) (fs : List (List ℕ)) → b1 ≡ b0 ++ w → b2 ≡ b1 ++ (32 ∷ f) → b3 ≡ b2 ++ blank_before fs → b3 ≡ b0 ++ joined 32 (w ∷ (f ∷ fs))
field_text b0 b1 b2 b3 w f fs e1 e2 e3 =
    let all : b3 ≡ ((b0 ++ w) ++ (32 ∷ f)) ++ blank_before fs = e3 ∙ ap (λ b. b ++ blank_before fs) (e2 ∙ ap (λ b. b ++ (32 ∷ f)) e1) in
    let flat : ((b0 ++ w) ++ (32 ∷ f)) ++ blank_before fs ≡ b0 ++ (w ++ (32 ∷ (f ++ blank_before fs))) = simp append_assoc in
    all ∙ flat ∙ ap (λ x. b0 ++ x) (sym (joined_blank w (f ∷ fs)))

pub leaf_line : (b0 b1 b2 b3 b4 : List ℕ) (leaf : Leaf) → b1 ≡ b0 ++ (108 ∷ (101 ∷ (97 ∷ (102 ∷ [])))) → b2 ≡ b1 ++ (32 ∷ signed_decimal leaf.scale) → b3 ≡ b2 ++ (32 ∷ decimal (length leaf.terms)) → b4 ≡ b3 ++ blank_before (term_fields leaf.terms)
    → b4 ≡ b0 ++ line_text (lines.Node (Closing leaf))
leaf_line b0 b1 b2 b3 b4 leaf e1 e2 e3 e4 =
    field_text b0 b1 b2 b4 (108 ∷ (101 ∷ (97 ∷ (102 ∷ [])))) (signed_decimal leaf.scale) (decimal (length leaf.terms) ∷ term_fields leaf.terms) e1 e2
    (e4 ∙ ap (λ b. b ++ blank_before (term_fields leaf.terms)) e3 ∙ append_assoc b2 (32 ∷ decimal (length leaf.terms)) (blank_before (term_fields leaf.terms)))

-- a line and its line feed
pub fed_line : (b0 b1 b2 line : List ℕ) → b1 ≡ b0 ++ line → b2 ≡ b1 ++ (10 ∷ []) → b2 ≡ b0 ++ lined line
fed_line b0 b1 b2 line e1 e2 = e2 ∙ ap (λ b. b ++ (10 ∷ [])) e1 ∙ append_assoc b0 line (10 ∷ [])

-- the lines before the cuts
pub opening_line : (b0 b1 b2 b3 b4 b5 l1 l2 l3 l4 l5 : List ℕ) → b1 ≡ b0 ++ lined l1 → b2 ≡ b1 ++ lined l2 → b3 ≡ b2 ++ lined l3 → b4 ≡ b3 ++ lined l4 → b5 ≡ b4 ++ lined l5
    → b5 ≡ b0 ++ fed (l1 ∷ (l2 ∷ (l3 ∷ (l4 ∷ (l5 ∷ [])))))
opening_line b0 b1 b2 b3 b4 b5 l1 l2 l3 l4 l5 e1 e2 e3 e4 e5 =
    let all : b5 ≡ ((((b0 ++ lined l1) ++ lined l2) ++ lined l3) ++ lined l4) ++ lined l5 =
    e5 ∙ ap (λ b. b ++ lined l5) (e4 ∙ ap (λ b. b ++ lined l4) (e3 ∙ ap (λ b. b ++ lined l3) (e2 ∙ ap (λ b. b ++ lined l2) e1))) in
    all ∙ simp append_assoc

-- a line and lines behind it
pub line_then : (b0 b1 b2 line : List ℕ) (more : List CertLine) → b1 ≡ b0 ++ lined line → b2 ≡ b1 ++ fed (map line_text more) → b2 ≡ b0 ++ (line ++ (10 ∷ fed (map line_text more)))
line_then b0 b1 b2 line more e1 e2 = e2 ∙ ap (λ b. b ++ fed (map line_text more)) e1 ∙ simp append_assoc

drop_first : (ts : List Tree) (i : ℕ) (t : Tree) → i < length ts → t ≡ get_or ts i t → drop i ts ≡ t ∷ drop (i + 1) ts
drop_first [] i t l e = absurd (omega arith)
drop_first (u ∷ ts) zero t l e = ap (λ x. x ∷ ts) (sym e)
drop_first (u ∷ ts) (suc i) t l e = let same : suc i + 1 ≡ suc (i + 1) = omega arith in rw same (drop_first ts i t (omega arith) e)

fed_lines : (xs ys : List CertLine) → fed (map line_text (xs ++ ys)) ≡ fed (map line_text xs) ++ fed (map line_text ys)
fed_lines xs ys = ap fed (map-append xs ys) ∙ fed-append (map line_text xs) (map line_text ys)

-- one more level
pub level_more : (b0 b1 b2 : List ℕ) (ts : List Tree) (i : ℕ) (t : Tree) → i < length ts → t ≡ get_or ts i t → b1 ≡ b0 ++ lined (line_text (lines.Level (i + 1))) → b2 ≡ b1 ++ fed (map line_text (map lines.Node t.nodes))
    → b2 ++ fed (map line_text (blocks (i + 1) (drop (i + 1) ts))) ≡ b0 ++ fed (map line_text (blocks i (drop i ts)))
level_more b0 b1 b2 ts i t l e e1 e2 =
    let rest = fed (map line_text (blocks (i + 1) (drop (i + 1) ts))) in
    let tree = fed (map line_text (map lines.Node t.nodes)) in
    let all : b2 ++ rest ≡ ((b0 ++ lined (line_text (lines.Level (i + 1)))) ++ tree) ++ rest = ap (λ b. b ++ rest) (e2 ∙ ap (λ b. b ++ tree) e1) in
    let flat : ((b0 ++ lined (line_text (lines.Level (i + 1)))) ++ tree) ++ rest ≡ b0 ++ (line_text (lines.Level (i + 1)) ++ (10 ∷ (tree ++ rest))) = simp append_assoc in
    all ∙ flat
    ∙ ap (λ x. b0 ++ (line_text (lines.Level (i + 1)) ++ (10 ∷ x))) (sym (fed_lines (map lines.Node t.nodes) (blocks (i + 1) (drop (i + 1) ts))))
    ∙ ap (λ us. b0 ++ fed (map line_text (blocks i us))) (sym (drop_first ts i t l e))

-- the parts of a text
pub whole_text : (b0 b1 b2 b3 b4 b5 : List ℕ) (c : Certificate)
    → b1 ≡ b0 ++ fed (map line_text (lines.Head c.version ∷ (lines.Sizes c.patterns c.rows ∷ (lines.Choice c.choice ∷ (lines.Values c.values ∷ (lines.Cuts (length c.cuts) ∷ []))))))
    → b2 ≡ b1 ++ fed (map line_text (map lines.Cut c.cuts)) → b3 ≡ b2 ++ fed (map line_text (blocks 0 c.levels)) → b4 ≡ b3 ++ fed (map line_text (open_block (length c.levels) c.unfinished))
    → b5 ≡ b4 ++ lined (line_text (lines.End (length c.levels))) → b5 ≡ b0 ++ text_of c
whole_text b0 b1 b2 b3 b4 b5 c e1 e2 e3 e4 e5 =
    let first = lines.Head c.version ∷ (lines.Sizes c.patterns c.rows ∷ (lines.Choice c.choice ∷ (lines.Values c.values ∷ (lines.Cuts (length c.cuts) ∷ [])))) in
    let cuts = map lines.Cut c.cuts in
    let levels = blocks 0 c.levels in
    let open_part = open_block (length c.levels) c.unfinished in
    let last = lines.End (length c.levels) ∷ [] in
    let parts : fed (map line_text (first ++ (cuts ++ (levels ++ (open_part ++ last)))))
    ≡ fed (map line_text first) ++ (fed (map line_text cuts) ++ (fed (map line_text levels) ++ (fed (map line_text open_part) ++ lined (line_text (lines.End (length c.levels)))))) =
    fed_lines first (cuts ++ (levels ++ (open_part ++ last)))
    ∙ ap (λ x. fed (map line_text first) ++ x) (fed_lines cuts (levels ++ (open_part ++ last))
    ∙ ap (λ x. fed (map line_text cuts) ++ x) (fed_lines levels (open_part ++ last)
    ∙ ap (λ x. fed (map line_text levels) ++ x) (fed_lines open_part last))) in
    chain (fed (map line_text first)) (fed (map line_text cuts)) (fed (map line_text levels)) (fed (map line_text open_part)) (lined (line_text (lines.End (length c.levels)))) e1 e2 e3 e4 e5
    ∙ ap (λ x. b0 ++ x) (sym parts)
  where
    chain : (x1 x2 x3 x4 x5 : List ℕ) → b1 ≡ b0 ++ x1 → b2 ≡ b1 ++ x2 → b3 ≡ b2 ++ x3 → b4 ≡ b3 ++ x4 → b5 ≡ b4 ++ x5 → b5 ≡ b0 ++ (x1 ++ (x2 ++ (x3 ++ (x4 ++ x5))))
    chain x1 x2 x3 x4 x5 e1 e2 e3 e4 e5 =
        let all : b5 ≡ ((((b0 ++ x1) ++ x2) ++ x3) ++ x4) ++ x5 = e5 ∙ ap (λ b. b ++ x5) (e4 ∙ ap (λ b. b ++ x4) (e3 ∙ ap (λ b. b ++ x3) (e2 ∙ ap (λ b. b ++ x2) e1))) in
        all ∙ simp append_assoc
