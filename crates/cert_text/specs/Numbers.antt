-- How fields and numbers are spelled.
use Rattle.std.specs.Prelude.{ℕ, ℤ, pos, negsuc, zero, suc, Bool, not, ◌&&◌, ◌==◌, nat_le, if◌then◌else◌, Option, Some, None, List, [], ◌∷◌, ◌++◌, length}
use Rattle.std.specs.List.{list_all}
use Rattle.std.specs.Str.{bytes_eq}
use Rattle.std.specs.Str.Parse.{digits_value}
use Rattle.std.specs.Fmt.{decimal}

-- ---- pieces with one byte between

abbrev pub onto : ℕ → List (List ℕ) → List (List ℕ)
onto b [] = (b ∷ []) ∷ []
onto b (f ∷ fs) = (b ∷ f) ∷ fs

-- the pieces before, between and behind the separators; empty ones are kept
abbrev pub cut : ℕ → List ℕ → List (List ℕ)
cut sep [] = [] ∷ []
cut sep (b ∷ bs) = if b == sep then [] ∷ cut sep bs else onto b (cut sep bs)

-- none of the bytes is the separator
abbrev pub lacks : ℕ → List ℕ → Bool
lacks sep f = list_all (λ b. not (b == sep)) f

abbrev pub joined : ℕ → List (List ℕ) → List ℕ
joined sep [] = []
joined sep (f ∷ []) = f
joined sep (f ∷ (g ∷ fs)) = f ++ (sep ∷ joined sep (g ∷ fs))

-- ---- numbers: what is written again as it was

abbrev pub opt_then : {A B : Type 0} → Option A → (A → Option B) → Option B
opt_then None f = None
opt_then (Some x) f = f x

abbrev pub is_digit : ℕ → Bool
is_digit b = nat_le 48 b && nat_le b 57

-- digits, at most 25 of them, that are the decimal of their value
abbrev pub is_natural : List ℕ → Bool
is_natural bs = nat_le (length bs) 25 && (list_all is_digit bs && bytes_eq bs (decimal (digits_value 10 bs)))

abbrev pub number_of : List ℕ → Option ℕ
number_of bs = if is_natural bs then Some (digits_value 10 bs) else None

-- a number up to a limit
abbrev pub number_up_to : ℕ → List ℕ → Option ℕ
number_up_to limit bs = opt_then (number_of bs) (λ n. if nat_le n limit then Some n else None)

-- minus nothing is no number
abbrev pub minus : Option ℕ → Option ℤ
minus None = None
minus (Some zero) = None
minus (Some (suc n)) = Some (negsuc n)

abbrev pub plus : Option ℕ → Option ℤ
plus None = None
plus (Some n) = Some (pos n)

abbrev pub signed_of : List ℕ → Option ℤ
signed_of [] = None
signed_of (b ∷ bs) = if b == 45 then minus (number_of bs) else plus (number_of (b ∷ bs))

-- every field
abbrev pub each_of : {A : Type 0} → (List ℕ → Option A) → List (List ℕ) → Option (List A)
each_of read [] = Some []
each_of read (f ∷ fs) = opt_then (read f) (λ x. opt_then (each_of read fs) (λ xs. Some (x ∷ xs)))
