-- Names in a page.
use Rattle.std.specs.Prelude.{ℕ, ◌==◌, ◌||◌, Bool, if◌then◌else◌, List, [], ◌∷◌, codes}
use Rattle.std.specs.List.{flat_map}

-- the bytes that stand for a byte of a name: `&`, `<`, `>`, `"` and `'` are written as entities
abbrev pub escaped_byte : ℕ → List ℕ
escaped_byte b =
    if b == 38 then codes "&amp;"
    else (if b == 60 then codes "&lt;"
    else (if b == 62 then codes "&gt;"
    else (if b == 34 then codes "&quot;"
    else (if b == 39 then codes "&#39;"
    else b ∷ []))))

unfoldable pub escaped : List ℕ → List ℕ
escaped name = flat_map escaped_byte name

-- `<`, `>`, `"` or `'`: what begins or ends a tag or a value of an attribute
abbrev pub is_mark : ℕ → Bool
is_mark b = (b == 60) || ((b == 62) || ((b == 34) || (b == 39)))
