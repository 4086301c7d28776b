-- Plain verification: when a record is a signature under a public key. A key's area holds the n words of a and then those of t.
use Rattle.std.specs.Prelude.{◌≡◌, ℕ, ◌-◌, ◌*◌, ◌<◌, ◌≤◌, Bool, List, map, length, take, drop, pos, ◌≢◌, slice_index, slice_index_or, unsigned_abs}
use Rattle.params.specs.Params.{Params, reach}
use Rattle.record.specs.Layout.{Content, size, kind, num2, num4, c_part, coefficient, unpacked, z_of, decode}
use Rattle.ring.specs.Ring.{Residues, residue, plus, minus, product}
use Rattle.std.specs.Str.{bytes_eq}
use Rattle.record.specs.declared.view.Record.{Record}
use Rattle.challenge.specs.Challenge.{challenge}

-- a key's area has its size and holds residues
pub record PublicKey (s : Params) (key : List ℕ) : Type 0 where
  pub sized : length key ≡ 2 * s.n
  pub residues : Residues s.p key

-- a·z1 + z2 − t·c
abbrev pub commitment : ℕ → List ℕ → List ℕ → List ℕ → List ℕ → List ℕ → List ℕ
commitment p a t z1 z2 c = minus p (plus p (product p a z1) z2) (product p t c)

-- the challenge that a record's answer calls for
abbrev pub expected : Params → List ℕ → Content → List ℕ
expected s key r =
    let z = map (residue s.p) r.z in
    challenge s (commitment s.p (take s.n key) (drop s.n key) (take s.n z) (drop s.n z) r.c) r.digest r.counter

-- bytes are a record of the set, near enough to 0, whose challenge is the one that its answer calls for
pub record Verifies (s : Params) (key bytes : List ℕ) : Type 0 where
  pub sized : length bytes ≡ size s
  pub length_field : num4 bytes 0 ≡ size s - 4
  pub kind_field : num2 bytes 4 ≡ kind s
  pub near : (i : ℕ) → i < 2 * s.n → unsigned_abs (slice_index_or (decode s bytes).z i (pos 0)) ≤ reach s
  pub coded : (i : ℕ) → i < s.n → slice_index (unpacked (c_part s bytes)) i ≢ 2
  pub answers : expected s key (decode s bytes) ≡ (decode s bytes).c

-- what a record that has been read says
abbrev pub content : Params → Record → Content
content s r = record { counter = r.counter; digest = r.digest.now; z = z_of r.z.now; c = map (coefficient s.p) (unpacked r.challenge.now) }

-- its challenge is the one that its answer calls for
abbrev pub answering : Params → List ℕ → Record → Bool
answering s key r = bytes_eq (expected s key (content s r)) (content s r).c
