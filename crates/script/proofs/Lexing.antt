-- Each case of the first token, as the code comes to it.
use Rattle.std.proofs.Common.{◌≡◌, ℕ, ◌+◌, ◌-◌, ◌<◌, ◌≤◌, true, false, List, ◌∷◌, length, get_or, take, drop, sym, ap, ◌∙◌, arith, add-zero, get_or-drop, length-drop}
use Rattle.std.specs.List.{prefix_len}
use Rattle.std.proofs.lemmas.Bool.{ne_eqb, cond-true, cond-false}
use Rattle.std.proofs.lemmas.List.{drop_more, drop_all, take_rest, get_or-take}
use Rattle.std.proofs.lemmas.List.Sums.{prefix_len-le-length, prefix_len-drop_yes}
use Rattle.script.specs.declared.token.Class.TheVariants.{Atom}
use Rattle.script.specs.Bytes.{atomic, within, skipped}
use Rattle.script.specs.Tokens.{open_paren, close_paren, end, found, malformed, atom_token, atom_of, token_here, token_at}

-- the run of an atom's bytes, as the code cuts off what stands from p on
module _ (s : List ℕ) (p n : ℕ) (h : p < length s) (run : n ≡ prefix_len (within Atom) (take (length s - p) (drop p s))) where
  pub run_is : p + n ≡ p + prefix_len (within Atom) (drop p s)
  run_is = ap (λ k. p + k) (run ∙ ap (prefix_len (within Atom)) (take_rest s p))

  pub run_inside : p + n ≤ length s
  run_inside = omega (arith, run_is, prefix_len-le-length (within Atom) (drop p s), length-drop p s)

-- the code stands at p, after the blanks
module _ (s : List ℕ) (start p : ℕ) (at : p ≡ start + skipped false (drop start s)) where
  here : token_here (drop p s) p ≡ token_at s start
  unfolding token_at
  here = ap (λ q. token_here (drop q s) q) at

  pub at_end : length s ≤ p → found end p p ≡ token_at s start
  at_end h = ap (λ xs. token_here xs p) (sym (drop_all p s h)) ∙ here

  module _ (h : p < length s) where
    reads : token_here (get_or s p 0 ∷ drop (p + 1) s) p ≡ token_at s start
    reads = ap (λ xs. token_here xs p) (sym (drop_more s p 0 h)) ∙ here

    pub at_open : get_or s p 0 ≡ 40 → found open_paren p (p + 1) ≡ token_at s start
    at_open q = rw q at reads

    pub at_close : get_or s p 0 ≡ 41 → found close_paren p (p + 1) ≡ token_at s start
    at_close q = rw q at reads

    module _ (no40 : get_or s p 0 ≡ 40 → ⊥) (no41 : get_or s p 0 ≡ 41 → ⊥) where
      pub at_other : atomic (get_or s p 0) ≡ false → malformed p ≡ token_at s start
      at_other y = rw (y, ne_eqb _ 40 no40, ne_eqb _ 41 no41) at reads

      module _ (a : ℕ) (end_is : a ≡ p + prefix_len (within Atom) (drop p s)) (y : atomic (get_or s p 0) ≡ true) where
        first : get_or (take (a - p) (drop p s)) 0 0 ≡ get_or s p 0
        first =
            let e = prefix_len-drop_yes (within Atom) s p 0 h y in
            get_or-take (a - p) (drop p s) 0 0 (omega arith) ∙ (get_or-drop p s 0 0 ∙ ap (λ i. get_or s i 0) (add-zero p))

        pub at_atom : atom_token (get_or (take (a - p) (drop p s)) 0 0) (take (a - p) (drop p s)) p ≡ token_at s start
        at_atom =
            let d : a - p ≡ prefix_len (within Atom) (drop p s) = omega arith in
            ap (λ b. atom_token b (take (a - p) (drop p s)) p) first
            ∙ (ap (λ n. atom_token (get_or s p 0) (take n (drop p s)) p) d
            ∙ (ap (λ xs. atom_token (get_or s p 0) (atom_of xs) p) (drop_more s p 0 h)
            ∙ (sym (cond-false _ _ _ (ne_eqb (get_or s p 0) 40 no40) ∙ (cond-false _ _ _ (ne_eqb (get_or s p 0) 41 no41) ∙ cond-true _ _ _ y)) ∙ reads)))
