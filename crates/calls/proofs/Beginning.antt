-- A load makes a card that stands at the start of its life.
use Rattle.std.proofs.Common.{◌≡◌, ℕ, ◌-◌, ◌*◌, ◌<◌, List, [], length, take, drop, ℤ, Some, None, Ok, Err, Option, Result, OnOk, sym, refl, ap, ◌∙◌, subst, arith, take-append-drop}
use Rattle.std.proofs.lemmas.List.{get_or-drop, get_or-take, length-drop, length-take-le}
use Rattle.params.specs.Params.{Params, Sound}
use Rattle.refusal.specs.declared.Refusal.{Refusal}
use Rattle.ring.specs.Laws.{Proper}
use Rattle.ring.specs.Ring.{Residues}
use Rattle.polys.specs.Area.{recombined}
use Rattle.polys.proofs.Places.{recombined-long, values-residues}
use Rattle.words.specs.Flow.{Flow}
use Rattle.keys.specs.Load.{Loadable, public_key, residues_of}
use Rattle.card.specs.declared.state.Loaded.{Loaded}
use Rattle.card.specs.Load.{LoadBy}
use Rattle.calls.specs.Replies.{areas}
use Rattle.calls.specs.Goings.{Begins}

recombined_residues : (s : Params) → Sound s → (m : ℕ) (key : List ℕ) → length key ≡ 2 * m * s.n → Residues s.p key → Residues s.p (recombined s m key)
unfolding recombined
recombined_residues s sound m key long r = let least = sound.n_least in let k = sound.k_below_p in values-residues s m 2 (2 * s.n) key (omega arith) (omega arith) (omega arith) long r

-- the front and the rest of 2n residues
front_proper : (n p : ℕ) (xs : List ℕ) → length xs ≡ 2 * n → Residues p xs → Proper n p (take n xs)
front_proper n p xs long r =
    let l : length (take n xs) ≡ n = length-take-le n xs (omega arith) in
    (l, λ k h. let b : k < n = omega arith in subst (λ (v : ℕ). v < p) (sym (get_or-take n xs k 0 b)) (r k (omega arith)))

rest_proper : (n p : ℕ) (xs : List ℕ) → length xs ≡ 2 * n → Residues p xs → Proper n p (drop n xs)
rest_proper n p xs long r =
    let l : length (drop n xs) ≡ n = length-drop n xs ∙ (let e : length xs - n ≡ n = omega arith in e) in
    (l, λ k h. subst (λ (v : ℕ). v < p) (sym (get_or-drop n xs k 0)) (r _ (omega arith)))

-- a card was made, so the public area holds its public key
published : (s : Params) (m : ℕ) (secret : List ℤ) (o : Option Refusal) (l : Loaded) (public public' key key' : List ℕ) (f f' : Flow) → LoadBy s m secret o (Ok l) public public' key key' f f' → public' ≡ public_key s secret public
published s m secret (Some e) l public public' key key' f f' h = absurd (let z : ◌≡◌ {A = ℕ} 0 1 = let e = h.0 in cc in omega arith)
published s m secret None l public public' key key' f f' h = h.0.published

pub begins_with : (s : Params) → Sound s → (m : ℕ) (secret : List ℤ) (o : Option Refusal) (l : Loaded) (public public' key key' : List ℕ) (f f' : Flow) → LoadBy s m secret o (Ok l) public public' key key' f f'
    → Loadable s m secret public key → recombined s m key' ≡ residues_of s secret → Residues s.p key' → length key' ≡ length key → Begins s m secret public (areas key' public' [] []) f'
begins_with s sound m secret o l public public' key key' f f' h able value residues kept =
    let sized : length key' ≡ 2 * m * s.n = kept ∙ able.key_sized in
    let whole : Residues s.p (residues_of s secret) = subst (Residues s.p) value (recombined_residues s sound m key' sized residues) in
    let long : length (residues_of s secret) ≡ 2 * s.n = sym (ap length value) ∙ recombined-long s m key' in
    record {
      lives = λ nonces. record {
        sound = record {
          sound = sound;
          some = able.some;
          most = able.most;
          a = (length-take-le s.n public (let e = able.public_sized in omega arith), able.residues);
          s1 = front_proper s.n s.p (residues_of s secret) long whole;
          s2 = rest_proper s.n s.p (residues_of s secret) long whole;
        };
        state = refl;
        digests = tt;
      };
      own = record {
        area = record { sized = sized; residues = residues };
        key_is = value ∙ sym (take-append-drop s.n (residues_of s secret));
        public_is = published s m secret o l public public' key key' f f' h;
      };
    }

-- the same of any answer: where no card was made there is nothing to show
pub begins : (s : Params) → Sound s → (m : ℕ) (secret : List ℤ) (o : Option Refusal) (r : Result Loaded Refusal) (public public' key key' : List ℕ) (f f' : Flow) → LoadBy s m secret o r public public' key key' f f'
    → OnOk r (Loadable s m secret public key) → OnOk r (recombined s m key' ≡ residues_of s secret) → OnOk r (Residues s.p key') → length key' ≡ length key → OnOk r (Begins s m secret public (areas key' public' [] []) f')
begins s sound m secret o (Ok l) public public' key key' f f' h able value residues kept = begins_with s sound m secret o l public public' key key' f f' h able value residues kept
begins s sound m secret o (Err e) public public' key key' f f' h able value residues kept = tt
