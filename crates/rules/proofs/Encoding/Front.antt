-- A buffer whose first elements are written and whose others are as they were: one element more, one field more, one lent tail more.
use Prim.Native.Nat.{ℕ, suc, ◌+◌, ◌-◌, ◌*◌, ◌≤◌, ◌<◌}
use native.Mathlib.Numerals.{add-one}
use native.Mathlib.Omega.{arith}
use mathlib.Core.Path.{◌≡◌, refl, ap, sym, ◌∙◌}
use mathlib.Core.List.{List, [], ◌∷◌, ◌++◌, append_assoc, append-nil}
use lib.ListN.{length, take, drop, get_or, set, length-append, length-drop}
use lib.Seq.{take_at, drop_at, set_at, drop-cons, drop-drop, take-length, drop-length, take-suc, append_snoc}
use Rattle.fields.specs.Field.{bytes, bytes_of_each, written}
use Rattle.fields.proofs.Width.{length-bytes}
use Rattle.rules.specs.Lists.{over}

-- the part of s from k on, as it is lent, and s with that part given back as t
abbrev pub lent : {A : Type 0} → ℕ → List A → List A
lent k s = take (length s - k) (drop k s)

abbrev pub given_back : {A : Type 0} → ℕ → List A → List A → List A
given_back k s t = take k s ++ (t ++ drop (length s - k) (drop k s))

-- s is s₀ with p, of length k, at its start
pub record Front {A : Type 0} (s₀ p s : List A) (k : ℕ) : Type 0 where
  pub long : length p ≡ k
  pub whole : s ≡ p ++ drop k s₀

module _ {A : Type 0} where
  pub front-none : (s₀ : List A) → Front s₀ [] s₀ 0
  front-none s₀ = record { long = refl; whole = refl }

  pub front-made : (s₀ p s : List A) (k : ℕ) → length p ≡ k → s ≡ over p s₀ → Front s₀ p s k
  front-made s₀ p s k l e = record { long = l; whole = e ∙ ap (λ (n : ℕ). p ++ drop n s₀) l }

  module _ {s₀ p s : List A} {k : ℕ} (f : Front s₀ p s k) where
    pub front-over : s ≡ over p s₀
    front-over = f.whole ∙ ap (λ (n : ℕ). p ++ drop n s₀) (sym f.long)

    pub front_length : k ≤ length s₀ → length s ≡ length s₀
    front_length h = ap length f.whole ∙ simp (length-append, length-drop) (omega (arith, f.long))

    written-part : take k s ≡ p
    written-part = ap (take k) f.whole ∙ take_at p (drop k s₀) k f.long

    rest : drop k s ≡ drop k s₀
    rest = ap (drop k) f.whole ∙ drop_at p (drop k s₀) k f.long

    behind : (m : ℕ) → drop (k + m) s ≡ drop (k + m) s₀
    behind m = sym (drop-drop m k s) ∙ ap (drop m) rest ∙ drop-drop m k s₀

    -- q is put behind p
    pub front-part : (q : List A) (m : ℕ) → length q ≡ m → Front s₀ (p ++ q) (take k s ++ (q ++ drop (k + m) s)) (k + m)
    front-part q m l =
        record {
          long = simp length-append (omega (arith, f.long));
          whole = rw (written-part, behind m) (sym (append_assoc p q (drop (k + m) s₀)));
        }

    pub front-set : (v : A) → k < length s₀ → Front s₀ (p ++ (v ∷ [])) (set s k v) (k + 1)
    front-set v h =
        let e : set s k v ≡ p ++ (v ∷ drop (suc k) s₀) =
        ap (λ (l : List A). set l k v) (f.whole ∙ ap (λ (l : List A). p ++ l) (drop-cons s₀ k v h)) ∙ set_at p (get_or s₀ k v) (drop (suc k) s₀) v k f.long in
        record {
          long = simp length-append (omega (arith, f.long));
          whole = e ∙ sym (append_snoc p v (drop (suc k) s₀)) ∙ ap (λ (n : ℕ). (p ++ (v ∷ [])) ++ drop n s₀) (sym (add-one k));
        }

    -- a callee that was lent the part from k on puts q at its start
    pub front_tail : (t q : List A) (m : ℕ) → length q ≡ m → t ≡ over q (lent k s) → Front s₀ (p ++ q) (given_back k s t) (k + m)
    front_tail t q m l e =
        let n : length s - k ≡ length (drop k s₀) = sym (length-drop k s) ∙ ap length rest in
        let g : t ≡ q ++ drop (k + m) s₀ = e ∙ rw (n, rest, take-length, l, drop-drop) in
        record {
          long = simp length-append (omega (arith, f.long));
          whole = rw (written-part, g, n, rest, drop-length, append-nil) (sym (append_assoc p q (drop (k + m) s₀)));
        }

-- a field is written behind p
pub front-field : {s₀ p s s' : List ℕ} {k : ℕ} → Front s₀ p s k → (w n : ℕ) → s' ≡ written s k w n → Front s₀ (p ++ bytes w n) s' (k + w)
front-field f w n e = rw e (front-part f (bytes w n) w (length-bytes w n))

-- numbers of one width one behind the other: number k is written behind those before it
module _ (w : ℕ) where
  each_snoc : (xs : List ℕ) (x : ℕ) → bytes_of_each w (xs ++ (x ∷ [])) ≡ bytes_of_each w xs ++ bytes w x
  unfolding bytes_of_each
  each_snoc [] x = append-nil (bytes w x)
  each_snoc (y ∷ xs) x = rw (each_snoc xs x, append_assoc)

  pub front-each : {s₀ s s' : List ℕ} (ns : List ℕ) (k : ℕ) → k < length ns → Front s₀ (bytes_of_each w (take k ns)) s (w * k) → s' ≡ written s (w * k) w (get_or ns k 0) → Front s₀ (bytes_of_each w (take (k + 1) ns)) s' (w * (k + 1))
  front-each ns k h f e =
      let n : w * (k + 1) ≡ w * k + w = omega arith in
      let more : take (k + 1) ns ≡ take k ns ++ (get_or ns k 0 ∷ []) = ap (λ (i : ℕ). take i ns) (add-one k) ∙ take-suc ns k 0 h in
      rw (n, more, each_snoc (take k ns) (get_or ns k 0)) (front-field f w (get_or ns k 0) e)
