-- Signs of quotients.
use Rattle.std.specs.Prelude.{ℕ, ℤ, pos, negsuc, neg_ℤ}

-- the number of size n with the sign of num / den
abbrev pub sign_of : ℤ → ℤ → ℕ → ℤ
sign_of (pos _) (pos _) n = pos n
sign_of (pos _) (negsuc _) n = neg_ℤ (pos n)
sign_of (negsuc _) (pos _) n = neg_ℤ (pos n)
sign_of (negsuc _) (negsuc _) n = pos n

-- the numerator of the quotient of 1 by c / d
abbrev pub turned_num : ℤ → ℤ → ℤ
turned_num (pos _) d = d
turned_num (negsuc _) d = neg_ℤ d
