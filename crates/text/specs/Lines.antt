-- "Lines of key=value, each ended by one line feed .. Fields are joined by commas"
-- Assumes nothing.
use Rattle.std.specs.Prelude.{ℕ, zero, suc, Bool, true, false, cond, List, [], ◌∷◌, ◌++◌, eqb, length}
use Rattle.text.specs.Numbers.{Found, found, missing, first_number, decimal}

abbrev pub comma : ℕ
comma = 44

abbrev pub equals : ℕ
equals = 61

abbrev pub line_feed : ℕ
line_feed = 10

-- what stands behind a field: a comma where more fields follow, else the line feed
abbrev pub separator : ℕ → ℕ
separator zero = line_feed
separator (suc following) = comma

-- a value that was found, and what is read behind it
abbrev pub behind : {A B : Type 0} → Found A → (A → List ℕ → Found B) → Found B
behind (found a s) go = go a s
behind missing go = missing

-- what is read behind bytes that must stand first
unfoldable pub past : {A : Type 0} → List ℕ → (List ℕ → Found A) → List ℕ → Found A
past [] go s = go s
past (b ∷ bytes) go [] = missing
past (b ∷ bytes) go (c ∷ s) =
    let more = past bytes go s in
    cond (eqb c b) more missing

-- whether two lists of bytes differ somewhere, as far as both go
unfoldable pub unlike : List ℕ → List ℕ → Bool
unlike [] y = false
unlike (a ∷ x) [] = false
unlike (a ∷ x) (b ∷ y) = cond (eqb a b) (unlike x y) true

-- a field with what stands behind it, where so many more follow
unfoldable pub field : ℕ → List ℕ → Found ℕ
field following s = behind (first_number s) (λ n t. past (separator following ∷ []) (found n) t)

-- so many fields
unfoldable pub fields : ℕ → List ℕ → Found (List ℕ)
fields zero s = found [] s
fields (suc following) s = behind (field following s) (λ n t. behind (fields following t) (λ ns u. found (n ∷ ns) u))

-- a line with a key and so many fields
unfoldable pub line : List ℕ → ℕ → List ℕ → Found (List ℕ)
line key width s = past (key ++ (equals ∷ [])) (fields width) s

-- the text of fields, and of a line
unfoldable pub fields_text : List ℕ → List ℕ
fields_text [] = []
fields_text (n ∷ ns) = decimal n ++ (separator (length ns) ∷ fields_text ns)

unfoldable pub line_text : List ℕ → List ℕ → List ℕ
line_text key ns = (key ++ (equals ∷ [])) ++ fields_text ns
