-- Five lines that are added one after the other.
use Rattle.std.proofs.Common.{ℕ, ◌≡◌, ◌∙◌, ap, List, ◌++◌}
use Rattle.std.proofs.lemmas.List.{append_assoc}

pub five_lines : (b0 b1 b2 b3 b4 b5 l1 l2 l3 l4 l5 : List ℕ) → b1 ≡ b0 ++ l1 → b2 ≡ b1 ++ l2 → b3 ≡ b2 ++ l3 → b4 ≡ b3 ++ l4 → b5 ≡ b4 ++ l5 → b5 ≡ b0 ++ (l1 ++ l2 ++ l3 ++ l4 ++ l5)
five_lines b0 b1 b2 b3 b4 b5 l1 l2 l3 l4 l5 e1 e2 e3 e4 e5 =
    let d2 : b2 ≡ b0 ++ (l1 ++ l2) = e2 ∙ ap (λ b. b ++ l2) e1 ∙ append_assoc b0 l1 l2 in
    let d3 : b3 ≡ b0 ++ (l1 ++ l2 ++ l3) = e3 ∙ ap (λ b. b ++ l3) d2 ∙ append_assoc b0 (l1 ++ l2) l3 in
    let d4 : b4 ≡ b0 ++ (l1 ++ l2 ++ l3 ++ l4) = e4 ∙ ap (λ b. b ++ l4) d3 ∙ append_assoc b0 (l1 ++ l2 ++ l3) l4 in
    e5 ∙ ap (λ b. b ++ l5) d4 ∙ append_assoc b0 (l1 ++ l2 ++ l3 ++ l4) l5
