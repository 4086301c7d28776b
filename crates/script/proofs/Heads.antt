-- What a line asks for, by its first word.
use Rattle.std.proofs.Common.{inl, inr, ⊎_elim, ◌+◌, ◌*◌, ◌/◌, ◌%◌, ◌≡◌, ◌≢◌, ℕ, List, [], ◌∷◌, ◌++◌, Some, None, Option, Bor, codes, vec_items, Vec, length, drop, get_or, Bool, true, false, cond, zero, suc, ◌==◌, refl, ap, sym, subst, ◌∙◌, ◌<◌, append_assoc, arith}
use Rattle.std.proofs.lemmas.Bool.{cases_eq}
use Rattle.std.proofs.lemmas.Bool.Decides.{nat_tests}
use Rattle.std.proofs.lemmas.List.{append_cancel_left}
use Rattle.std.specs.Char.{digit_value}
use Rattle.std.specs.Str.Iter.{LacksByte}
use Rattle.std.specs.declared.alloc.Global.{Global}
use Rattle.refusal.specs.Told.{area_name}
use Rattle.refusal.specs.declared.Area.{Area}
use Rattle.refusal.specs.declared.Area.TheVariants.{Public, Key}
use Rattle.script.specs.Integers.{number_solid}
use Rattle.script.proofs.Rows.{same_split, has_space}
use Rattle.script.proofs.Split.{spaced_under}
use Rattle.script.specs.Answers.{NoneIs}
use Rattle.script.specs.Lines.{Asks, Calls, Fills, Listed, Numbered, Quiet, Says, spaced}
use Rattle.script.specs.Words.{Integer, Number, Spells}
use Rattle.script.specs.declared.command.Action.{Action}
use Rattle.script.specs.declared.command.Action.TheVariants.{WordsOfA, WordsOfT, Secret, Shares, Fill, Load, Work, Room, Poke, Show, NewTill, Once, Repeat}
use Rattle.script.specs.declared.command.Call.{Call}
use Rattle.script.specs.declared.command.Call.TheVariants.{Check, Sign, Remask, Report}
use Rattle.script.specs.declared.command.Command.TheVariants.{Nothing, Start, Act}
use Rattle.script.specs.declared.command.SetName.TheVariants.{S, I}
use Rattle.script.specs.declared.command.Shown.TheVariants.{Bytes, Last}
use Rattle.script.specs.declared.stream.Stream.TheVariants.{Nonces, Masks}
use Rattle.script.specs.declared.command.Supply.{Supply}
use Rattle.script.specs.declared.command.Supply.TheVariants.{Tape, Generator, Health}

-- a list behind its name
module _ (rest : Option (Bor (List ℕ))) where
  asks_a : (a : Action) → Asks (spaced (codes "a") rest) a → ((v : Vec ℕ Global) → a ≡ WordsOfA v → ⊥) → ⊥
  asks_a a h other = grind arith

  asks_t : (a : Action) → Asks (spaced (codes "t") rest) a → ((v : Vec ℕ Global) → a ≡ WordsOfT v → ⊥) → ⊥
  asks_t a h other = grind arith

  asks_secret : (a : Action) → Asks (spaced (codes "secret") rest) a → ((v : _) → a ≡ Secret v → ⊥) → ⊥
  asks_secret a h other = grind arith

  asks_shares : (a : Action) → Asks (spaced (codes "shares") rest) a → ((n : ℕ) → a ≡ Shares n → ⊥) → ⊥
  asks_shares a h other = grind arith

  asks_work : (a : Action) → Asks (spaced (codes "work") rest) a → ((n : ℕ) → a ≡ Work n → ⊥) → ⊥
  asks_work a h other = grind arith

  asks_room : (a : Action) → Asks (spaced (codes "room") rest) a → ((n : ℕ) → a ≡ Room n → ⊥) → ⊥
  asks_room a h other = grind arith

  pub no_a : NoneIs (Listed (Number 4294967295) (codes "a") (spaced (codes "a") rest)) → NoneIs (Asks (spaced (codes "a") rest))
  no_a none a h = asks_a a h (λ v e. none (vec_items v) (subst (Asks (spaced (codes "a") rest)) e h))

  pub no_t : NoneIs (Listed (Number 4294967295) (codes "t") (spaced (codes "t") rest)) → NoneIs (Asks (spaced (codes "t") rest))
  no_t none a h = asks_t a h (λ v e. none (vec_items v) (subst (Asks (spaced (codes "t") rest)) e h))

  pub no_secret : NoneIs (Listed Integer (codes "secret") (spaced (codes "secret") rest)) → NoneIs (Asks (spaced (codes "secret") rest))
  no_secret none a h = asks_secret a h (λ v e. none (vec_items v) (subst (Asks (spaced (codes "secret") rest)) e h))

  pub no_shares : NoneIs (Numbered (codes "shares") 255 (spaced (codes "shares") rest)) → NoneIs (Asks (spaced (codes "shares") rest))
  no_shares none a h = asks_shares a h (λ n e. none n (subst (Asks (spaced (codes "shares") rest)) e h))

  pub no_work : NoneIs (Numbered (codes "work") 4294967295 (spaced (codes "work") rest)) → NoneIs (Asks (spaced (codes "work") rest))
  no_work none a h = asks_work a h (λ n e. none n (subst (Asks (spaced (codes "work") rest)) e h))

  pub no_room : NoneIs (Numbered (codes "room") 4294967295 (spaced (codes "room") rest)) → NoneIs (Asks (spaced (codes "room") rest))
  no_room none a h = asks_room a h (λ n e. none n (subst (Asks (spaced (codes "room") rest)) e h))

-- poke: an area, and two words behind its name
pub asks_poke : (text : List ℕ) (a : Action) → Asks (codes "poke " ++ text) a
    → ((area : Area) (index value : ℕ) (i w : List ℕ) → text ≡ area_name area ++ (32 ∷ (i ++ (32 ∷ w))) → Number 18446744073709551615 i index → Number 4294967295 w value → ⊥) → ⊥
asks_poke text a h other = grind arith

-- sign: two words
pub asks_sign : (text : List ℕ) (c : Call) → Calls (codes "sign " ++ text) c
    → ((digest : List ℕ) (tries : ℕ) (w d : List ℕ) → text ≡ w ++ (32 ∷ d) → Spells w digest → length digest ≡ 32 → Number 4294967295 d tries → ⊥) → ⊥
asks_sign text c h other = grind arith

-- repeat: a word, and a line
pub asks_repeat : (text : List ℕ) (a : Action) → Asks (codes "repeat " ++ text) a
    → ((times : ℕ) (call : Call) (count line : List ℕ) → text ≡ count ++ (32 ∷ line) → Number 4294967295 count times → 0 < times → Calls line call → ⊥) → ⊥
asks_repeat text a h other = grind arith

-- what a word source becomes, whatever its name is
pub unnamed : (name text : List ℕ) (s : Supply) → Fills name (name ++ text) s → Fills [] text s
unnamed name text (Tape v) (inl h) = inl (append_cancel_left name text (codes " tape") h.0, h.1)
unnamed name text (Tape v) (inr h) = inr (h.0, append_cancel_left name text (codes " tape" ++ (32 ∷ h.0)) (h.1 ∙ append_assoc name (codes " tape") (32 ∷ h.0)), h.2)
unnamed name text (Generator seed count) h = (h.0, h.1, append_cancel_left name text (codes " generator " ++ (h.0 ++ (32 ∷ h.1))) h.2, h.3, h.4, h.5)
unnamed name text (Health cutoff) h = (h.0, append_cancel_left name text (codes " health" ++ (32 ∷ h.0)) (h.1 ∙ append_assoc name (codes " health") (32 ∷ h.0)), h.2)

letters : (x y : ℕ) → x ≡ y → x < y → ⊥
letters x y e h = omega arith

pub fills_generator : (text : List ℕ) (s : Supply) → Fills [] (codes " generator " ++ text) s
    → ((seed : List ℕ) (count : ℕ) (w d : List ℕ) → text ≡ w ++ (32 ∷ d) → Spells w seed → length seed ≡ 32 → Number 18446744073709551615 d count → ⊥) → ⊥
fills_generator text (Tape v) (inl h) other = absurd (letters 103 116 (ap (λ (l : List ℕ). get_or l 1 0) h.0) (omega arith))
fills_generator text (Tape v) (inr h) other = absurd (letters 103 116 (ap (λ (l : List ℕ). get_or l 1 0) h.1) (omega arith))
fills_generator text (Generator seed count) h other = other seed count h.0 h.1 (append_cancel_left (codes " generator ") text (h.0 ++ (32 ∷ h.1)) h.2) h.3 h.4 h.5
fills_generator text (Health cutoff) h other = absurd (letters 103 104 (ap (λ (l : List ℕ). get_or l 1 0) h.1) (omega arith))

fills_tape : (rest : Option (Bor (List ℕ))) (s : Supply) → Fills [] (spaced (codes " tape") rest) s → ((v : Vec ℕ Global) → s ≡ Tape v → ⊥) → ⊥
fills_tape rest s h other = grind arith

fills_health : (rest : Option (Bor (List ℕ))) (s : Supply) → Fills [] (spaced (codes " health") rest) s → ((n : ℕ) → s ≡ Health n → ⊥) → ⊥
fills_health rest s h other = grind arith

-- a name with no space in it, by looking
abbrev no_spaces : List ℕ → Bool
no_spaces [] = true
no_spaces (b ∷ bs) = cond (b == 32) false (no_spaces bs)

solid_by : (bs : List ℕ) → no_spaces bs ≡ true → LacksByte 32 bs
solid_by [] all k h e = absurd (omega arith)
solid_by (b ∷ bs) all zero h e = absurd (first b (no_spaces bs) all e)
  where
    first : (b : ℕ) (more : Bool) → cond (b == 32) false more ≡ true → b ≡ 32 → ⊥
    first b more h e = grind (arith, nat_tests)
solid_by (b ∷ bs) all (suc k) h e = solid_by bs (others b (no_spaces bs) all) k (omega arith) e
  where
    others : (b : ℕ) (more : Bool) → cond (b == 32) false more ≡ true → more ≡ true
    others b more h = grind (arith, nat_tests)

-- the names of areas have no space in them
area_solid : (area : Area) → LacksByte 32 (area_name area)
area_solid Public = solid_by (codes "public") refl
area_solid Key = solid_by (codes "key") refl

module _ (area : Area) (place : List ℕ) where
  abbrev line : List ℕ
  line = codes "poke " ++ (area_name area ++ (32 ∷ place))

  -- behind the area's name stand two words, the first with no space in it
  place_is : (a : Action) → Asks line a → ((index value : ℕ) (i w : List ℕ) → place ≡ i ++ (32 ∷ w) → Number 18446744073709551615 i index → Number 4294967295 w value → ⊥) → ⊥
  place_is a h other =
      asks_poke (area_name area ++ (32 ∷ place)) a h
      (λ area' index value i w e n v. other index value i w (same_split (area_name area) (area_name area') place (i ++ (32 ∷ w)) (area_solid area) (area_solid area') e).1 n v)

  pub no_place : LacksByte 32 place → NoneIs (Asks line)
  no_place lacks a h = place_is a h (λ index value i w e n v. has_space i w (subst (LacksByte 32) e lacks))

  pub no_poke_at : (index value : List ℕ) → place ≡ index ++ (32 ∷ value) → LacksByte 32 index → ((n v : ℕ) → Number 18446744073709551615 index n → Number 4294967295 value v → ⊥) → NoneIs (Asks line)
  no_poke_at index value e lacks none a h =
      place_is a h
      (λ n v i w e' p q.
      let same = same_split index i value w lacks (number_solid 18446744073709551615 i n p) (sym e ∙ e') in
      none n v (subst (λ (t : List ℕ). Number 18446744073709551615 t n) (sym same.0) p) (subst (λ (t : List ℕ). Number 4294967295 t v) (sym same.1) q))

-- poke: an area that there is not
pub no_area : (text name place : List ℕ) → text ≡ name ++ (32 ∷ place) → LacksByte 32 name → ((area : Area) → name ≢ area_name area) → NoneIs (Asks (codes "poke " ++ text))
no_area text name place e lacks none a h =
    asks_poke text a h (λ area index value i w e' p q. none area (same_split name (area_name area) place (i ++ (32 ∷ w)) lacks (area_solid area) (sym e ∙ e')).0)

pub no_name : (text : List ℕ) → LacksByte 32 text → NoneIs (Asks (codes "poke " ++ text))
no_name text lacks a h = asks_poke text a h (λ area index value i w e p q. has_space (area_name area) (i ++ (32 ∷ w)) (subst (LacksByte 32) e lacks))

-- hexadecimal digits have no space between them
no_digit : (d : ℕ) → digit_value d < 16 → d ≢ 32
no_digit d h e = let low : digit_value 32 < 16 = subst (λ (x : ℕ). digit_value x < 16) e h in absurd (omega arith)

spells_solid : (word bytes : List ℕ) → Spells word bytes → LacksByte 32 word
spells_solid word bytes h k l =
    let j = k / 2 in
    let long = h.sized in
    let p = h.pairs j (omega arith) in
    ⊎_elim (λ even. let e : k ≡ 2 * j = omega arith in subst (λ (i : ℕ). get_or word i 0 ≢ 32) (sym e) (no_digit (get_or word (2 * j) 0) p.0))
    (λ odd. let e : k ≡ 2 * j + 1 = omega arith in subst (λ (i : ℕ). get_or word i 0 ≢ 32) (sym e) (no_digit (get_or word (2 * j + 1) 0) p.1))
    (cases_eq (k % 2) 0)

-- sign: 32 bytes and a number
module _ (text : List ℕ) where
  pub no_sign_word : LacksByte 32 text → NoneIs (Calls (codes "sign " ++ text))
  no_sign_word lacks c h = asks_sign text c h (λ digest tries w d e s l n. has_space w d (subst (LacksByte 32) e lacks))

  pub no_sign : (digest tries : List ℕ) → text ≡ digest ++ (32 ∷ tries) → LacksByte 32 digest → ((bytes : List ℕ) (n : ℕ) → length bytes ≡ 32 → Spells digest bytes → Number 4294967295 tries n → ⊥) → NoneIs (Calls (codes "sign " ++ text))
  no_sign digest tries e lacks none c h =
      asks_sign text c h
      (λ bytes n w d e' p l q.
      let same = same_split digest w tries d lacks (spells_solid w bytes p) (sym e ∙ e') in
      none bytes n l (subst (λ (t : List ℕ). Spells t bytes) (sym same.0) p) (subst (λ (t : List ℕ). Number 4294967295 t n) (sym same.1) q))

  -- a generator: 32 bytes and a number
  pub no_seed_word : LacksByte 32 text → (name : List ℕ) → NoneIs (Fills name (name ++ (codes " generator " ++ text)))
  no_seed_word lacks name s h = fills_generator text s (unnamed name (codes " generator " ++ text) s h) (λ seed count w d e p l n. has_space w d (subst (LacksByte 32) e lacks))

  pub no_generator : (seed count : List ℕ) → text ≡ seed ++ (32 ∷ count) → LacksByte 32 seed → ((bytes : List ℕ) (n : ℕ) → length bytes ≡ 32 → Spells seed bytes → Number 18446744073709551615 count n → ⊥)
      → (name : List ℕ) → NoneIs (Fills name (name ++ (codes " generator " ++ text)))
  no_generator seed count e lacks none name s h =
      fills_generator text s (unnamed name (codes " generator " ++ text) s h)
      (λ bytes n w d e' p l q.
      let same = same_split seed w count d lacks (spells_solid w bytes p) (sym e ∙ e') in
      none bytes n l (subst (λ (t : List ℕ). Spells t bytes) (sym same.0) p) (subst (λ (t : List ℕ). Number 18446744073709551615 t n) (sym same.1) q))

  -- repeat: a number and a line
  pub no_count_word : LacksByte 32 text → NoneIs (Asks (codes "repeat " ++ text))
  no_count_word lacks a h = asks_repeat text a h (λ times call w d e n some l. has_space w d (subst (LacksByte 32) e lacks))

  pub no_repeat : (count line : List ℕ) → text ≡ count ++ (32 ∷ line) → LacksByte 32 count → ((times : ℕ) (call : Call) → Number 4294967295 count times → 0 < times → Calls line call → ⊥) → NoneIs (Asks (codes "repeat " ++ text))
  no_repeat count line e lacks none a h =
      asks_repeat text a h
      (λ times call w d e' n some l.
      let same = same_split count w line d lacks (number_solid 4294967295 w times n) (sym e ∙ e') in
      none times call (subst (λ (t : List ℕ). Number 4294967295 t times) (sym same.0) n) some (subst (λ (t : List ℕ). Calls t call) (sym same.1) l))

-- what a word source becomes, by its first word
module _ (text : List ℕ) (rest : Option (Bor (List ℕ))) where
  pub no_tape : text ≡ spaced (codes "tape") rest → ((name : List ℕ) → NoneIs (Listed (Number 4294967295) name (spaced name rest))) → (name : List ℕ) → NoneIs (Fills name (name ++ (32 ∷ text)))
  no_tape e none name s h =
      let u = subst (λ (t : List ℕ). Fills [] t s) (ap (λ (t : List ℕ). 32 ∷ t) e ∙ spaced_under [] (codes "tape") rest) (unnamed name (32 ∷ text) s h) in
      fills_tape rest s u (λ v e'. none (codes " tape") (vec_items v) (subst (Fills [] (spaced (codes " tape") rest)) e' u))

  pub no_health : text ≡ spaced (codes "health") rest → ((name : List ℕ) → NoneIs (Numbered name 4294967295 (spaced name rest))) → (name : List ℕ) → NoneIs (Fills name (name ++ (32 ∷ text)))
  no_health e none name s h =
      let u = subst (λ (t : List ℕ). Fills [] t s) (ap (λ (t : List ℕ). 32 ∷ t) e ∙ spaced_under [] (codes "health") rest) (unnamed name (32 ∷ text) s h) in
      fills_health rest s u (λ n e'. none (codes " health") n (subst (Fills [] (spaced (codes " health") rest)) e' u))

-- none of the first words of an action that is no call
pub record Others (word : List ℕ) : Type 0 where
  pub load : word ≢ codes "load"
  pub a : word ≢ codes "a"
  pub t : word ≢ codes "t"
  pub secret : word ≢ codes "secret"
  pub shares : word ≢ codes "shares"
  pub nonces : word ≢ codes "nonces"
  pub masks : word ≢ codes "masks"
  pub work : word ≢ codes "work"
  pub room : word ≢ codes "room"
  pub poke : word ≢ codes "poke"
  pub show : word ≢ codes "show"
  pub till : word ≢ codes "till"
  pub repeat : word ≢ codes "repeat"

-- a word that begins a line
module _ (word : List ℕ) (rest : Option (Bor (List ℕ))) (lacks : LacksByte 32 word) where
  alone_by : (r : Option (Bor (List ℕ))) (name : List ℕ) → no_spaces name ≡ true → spaced word r ≡ name → word ≡ name
  alone_by None name solid e = e
  alone_by (Some text) name solid e = absurd (has_space word text.now (subst (LacksByte 32) (sym e) (solid_by name solid)))

  behind_by : (r : Option (Bor (List ℕ))) (name text : List ℕ) → no_spaces name ≡ true → spaced word r ≡ name ++ (32 ∷ text) → word ≡ name
  behind_by None name text solid e = absurd (has_space name text (subst (LacksByte 32) e lacks))
  behind_by (Some other) name text solid e = (same_split word name other.now text lacks (solid_by name solid) e).0

  alone : (name : List ℕ) → no_spaces name ≡ true → spaced word rest ≡ name → word ≡ name
  alone = alone_by rest

  begun : (name text : List ℕ) → no_spaces name ≡ true → spaced word rest ≡ name ++ (32 ∷ text) → word ≡ name
  begun = behind_by rest

  pub no_call : (word ≢ codes "check") → (word ≢ codes "sign") → (word ≢ codes "remask") → (word ≢ codes "report") → NoneIs (Calls (spaced word rest))
  no_call check sign remask report (Check Last) h = check (begun (codes "check") (codes "last") refl h)
  no_call check sign remask report (Check (Bytes v)) (inl h) = check (alone (codes "check") refl h.0)
  no_call check sign remask report (Check (Bytes v)) (inr h) = check (begun (codes "check") h.0 refl h.1)
  no_call check sign remask report (Sign digest tries) h = sign (begun (codes "sign") (h.0 ++ (32 ∷ h.1)) refl h.2)
  no_call check sign remask report Remask h = remask (alone (codes "remask") refl h)
  no_call check sign remask report Report h = report (alone (codes "report") refl h)

  pub no_supply : (word ≢ codes "tape") → (word ≢ codes "generator") → (word ≢ codes "health") → (name : List ℕ) → NoneIs (Fills name (name ++ (32 ∷ spaced word rest)))
  no_supply tape generator health name s h = none s (unnamed name (32 ∷ spaced word rest) s h)
    where
      none : NoneIs (Fills [] (32 ∷ spaced word rest))
      none (Tape v) (inl h) = tape (alone (codes "tape") refl (ap (λ (l : List ℕ). drop 1 l) h.0))
      none (Tape v) (inr h) = tape (begun (codes "tape") h.0 refl (ap (λ (l : List ℕ). drop 1 l) h.1))
      none (Generator seed count) h = generator (begun (codes "generator") (h.0 ++ (32 ∷ h.1)) refl (ap (λ (l : List ℕ). drop 1 l) h.2))
      none (Health cutoff) h = health (begun (codes "health") h.0 refl (ap (λ (l : List ℕ). drop 1 l) h.1))

  -- one of these first words
  listed_by : {A : Type 0} (write : List ℕ → A → Type 0) (name : List ℕ) (values : List A) → no_spaces name ≡ true → Listed write name (spaced word rest) values → word ≡ name
  listed_by write name values solid (inl h) = alone name solid h.0
  listed_by write name values solid (inr h) = begun name h.0 solid h.1

  filled_by : (name : List ℕ) (s : Supply) → no_spaces name ≡ true → Fills name (spaced word rest) s → word ≡ name
  filled_by name (Tape v) solid (inl h) = begun name (codes "tape") solid h.0
  filled_by name (Tape v) solid (inr h) = begun name (codes "tape " ++ h.0) solid (h.1 ∙ append_assoc name (codes " tape") (32 ∷ h.0))
  filled_by name (Generator seed count) solid h = begun name (codes "generator " ++ (h.0 ++ (32 ∷ h.1))) solid h.2
  filled_by name (Health cutoff) solid h = begun name (codes "health " ++ h.0) solid (h.1 ∙ append_assoc name (codes " health") (32 ∷ h.0))

  pub no_action : Others word → NoneIs (Calls (spaced word rest)) → NoneIs (Asks (spaced word rest))
  no_action o none (WordsOfA v) h = o.a (listed_by (Number 4294967295) (codes "a") (vec_items v) refl h)
  no_action o none (WordsOfT v) h = o.t (listed_by (Number 4294967295) (codes "t") (vec_items v) refl h)
  no_action o none (Secret v) h = o.secret (listed_by Integer (codes "secret") (vec_items v) refl h)
  no_action o none (Shares n) h = o.shares (begun (codes "shares") h.0 refl h.1)
  no_action o none (Fill Nonces s) h = o.nonces (filled_by (codes "nonces") s refl h)
  no_action o none (Fill Masks s) h = o.masks (filled_by (codes "masks") s refl h)
  no_action o none Load h = o.load (alone (codes "load") refl h)
  no_action o none (Work n) h = o.work (begun (codes "work") h.0 refl h.1)
  no_action o none (Room n) h = o.room (begun (codes "room") h.0 refl h.1)
  no_action o none (Poke area index value) h = o.poke (begun (codes "poke") (area_name area ++ (32 ∷ (h.0 ++ (32 ∷ h.1)))) refl h.2)
  no_action o none (Show area) h = o.show (begun (codes "show") (area_name area) refl h)
  no_action o none (NewTill None) h = o.till (alone (codes "till") refl h)
  no_action o none (NewTill (Some last)) h = o.till (begun (codes "till") h.0 refl h.1)
  no_action o none (Once call) h = none call h
  no_action o none (Repeat times call) h = o.repeat (begun (codes "repeat") (h.0 ++ (32 ∷ h.1)) refl h.2)

  pub no_command : (word ≢ codes "set") → (Quiet (spaced word rest) → ⊥) → NoneIs (Asks (spaced word rest)) → NoneIs (Says (spaced word rest))
  no_command set loud none Nothing h = loud h
  no_command set loud none (Start S) h = set (begun (codes "set") (codes "S") refl h)
  no_command set loud none (Start I) h = set (begun (codes "set") (codes "I") refl h)
  no_command set loud none (Act a) h = none a h

-- words that are followed by nothing, or by something
pub no_sign_alone : NoneIs (Calls (codes "sign"))
no_sign_alone c h = grind arith

pub no_generator_alone : (name : List ℕ) → NoneIs (Fills name (name ++ (32 ∷ codes "generator")))
no_generator_alone name s h = none s (unnamed name (32 ∷ codes "generator") s h)
  where
    none : NoneIs (Fills [] (32 ∷ codes "generator"))
    none s h = grind arith

pub no_set_alone : NoneIs (Says (codes "set"))
no_set_alone c h = grind arith

module _ (rest : Option (Bor (List ℕ))) (some : rest ≢ None) where
  pub no_remask_more : NoneIs (Calls (spaced (codes "remask") rest))
  no_remask_more c h = grind arith

  pub no_report_more : NoneIs (Calls (spaced (codes "report") rest))
  no_report_more c h = grind arith

  pub no_load_more : NoneIs (Asks (spaced (codes "load") rest))
  no_load_more a h = grind arith
