-- A plain signing from the middle of an attempt on.
use Rattle.std.specs.Prelude.{◌≡◌, ℕ, ◌+◌, ◌-◌, ◌*◌, ◌<◌, List, [], length, nat_lt}
use Rattle.params.specs.Params.{Params}
use Rattle.words.specs.declared.Mark.{Mark}
use Rattle.words.specs.Flow.{Flow}
use Rattle.words.specs.Spending.{Spent}
use Rattle.plain.specs.Nonces.{whole, cut_short}
use Rattle.plain.specs.Run.{Key, Setting, Run, Outcome, Fate, choose, closed, finish, run, stop}

-- what is signed: with which key, which digest, and under which counter
pub record Subject : Type 0 where
  pub key : Key
  pub digest : List ℕ
  pub counter : ℕ

-- what a signing keeps of its sources: the nonce words behind the last whole group, both marks, and how many mask words there were
pub record Supply : Type 0 where
  pub cut : List ℕ
  pub nonce_mark : Mark
  pub mask_mark : Mark
  pub mask_count : ℕ

abbrev pub setting_of : Params → ℕ → Subject → Supply → Setting
setting_of s m u x = record {
  set = s;
  key = u.key;
  shares = m;
  digest = u.digest;
  counter = u.counter;
  cut = x.cut;
  nonce_mark = x.nonce_mark;
  mask_mark = x.mask_mark;
  mask_count = x.mask_count;
}

-- the run from here on, with these nonce words still to come: the attempt goes on drawing, or is finished once it has its nonces
unfoldable pub resume : Setting → (more a : ℕ) (ws y : List ℕ) (seen spent : ℕ) (words : List ℕ) → Run
resume e more a ws y seen spent words =
    choose (nat_lt (length y) (2 * e.set.n))
    (run e more a ws y seen spent (whole e.shares words))
    (finish e more a ws seen words (closed e.set e.key e.digest e.counter y) spent λ spent.
    run e (more - 1) (a + 1) [] [] seen spent (whole e.shares words))

-- the supply is that of these sources, once so many mask words are spent
pub record Fits (x : Supply) (m spent : ℕ) (n f : Flow) : Type 0 where
  pub cut : x.cut ≡ cut_short m n.words
  pub nonce_mark : x.nonce_mark ≡ n.mark
  pub mask_mark : x.mask_mark ≡ f.mark
  pub mask_count : x.mask_count ≡ spent + length f.words

-- so many candidates and mask words on, the run goes on from there
pub record Leads (s : Params) (m : ℕ) (u : Subject) (ws y : List ℕ) (n f : Flow) (seen spent : ℕ) (ws' y' : List ℕ) (n' f' : Flow) : Type 0 where
  pub fits : (x : Supply) (spent₀ : ℕ) → Fits x m spent₀ n f → Fits x m (spent₀ + spent) n' f'
  pub goes : (x : Supply) (more a seen₀ spent₀ : ℕ) → Fits x m spent₀ n f →
      resume (setting_of s m u x) more a ws y seen₀ spent₀ n.words ≡ resume (setting_of s m u x) more a ws' y' (seen₀ + seen) (spent₀ + spent) n'.words

-- an attempt that stops, and the run with it: the outcome o of the attempt's number, and what was drawn until then
pub record Stops (s : Params) (m : ℕ) (u : Subject) (ws y : List ℕ) (o : ℕ → Outcome) (n n' f f' : Flow) : Type 0 where
  pub words : List ℕ
  pub fate : Fate
  pub seen : ℕ
  pub extra : ℕ
  pub spent : ℕ
  pub few : extra < m
  pub nonces : Spent (m * seen + extra) n n'
  pub masks : Spent spent f f'
  pub goes : (x : Supply) (more a seen₀ spent₀ : ℕ) → Fits x m spent₀ n f →
      resume (setting_of s m u x) more a ws y seen₀ spent₀ n.words ≡ stop (setting_of s m u x) (o a) words fate (seen₀ + seen) extra (spent₀ + spent) n'.words
