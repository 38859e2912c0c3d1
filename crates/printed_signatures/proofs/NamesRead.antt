-- Printed names are names of the grammar.
use Rattle.std.proofs.Common.{ℕ, ◌≡◌, sym, ap, subst, Bool, true, false, List, [], ◌∷◌, ◌++◌, append_assoc, inl, inr}
use Rattle.rbs_terminals.specs.declared.token.Token.{Token}
use Rattle.rbs_terminals.specs.declared.token.Spot.{Spot}
use Rattle.rbs_terminals.specs.declared.token.Gap.{Gap}
use Rattle.rbs_terminals.specs.declared.token.Gap.TheVariants as gap
use Rattle.rbs_terminals.specs.declared.token.Mark.TheVariants as mark
use Rattle.rbs_terminals.specs.declared.token.Kind.TheVariants as kind
use Rattle.sig_model.specs.declared.ty.TypeName.{TypeName}
use Rattle.rbs_types.specs.Symbols.{on_line, scope_follows}
use Rattle.rbs_types.specs.Parts.{grown, no_name, root}
use Rattle.rbs_types.specs.Grammar.{Use, Words, capital, interface, small, outer, Name, relative, rooted}
use Rattle.printed_tokens.specs.Layout as lay
use Rattle.printed_tokens.specs.Layout.{word_token, path_pieces, name_pieces}
use Rattle.printed_tokens.specs.Fits.{Fits}
use Rattle.printed_signatures.specs.Writable.{EndsName, IsPath, IsName}
use Rattle.printed_signatures.proofs.Split.{first, first_mark, onward}
use Rattle.printed_signatures.proofs.WordKinds.{upper_word, interface_word, small_word}

-- the name with these words behind it
abbrev pub with_path : TypeName → List (List ℕ) → TypeName
with_path n path = record { rooted = n.rooted; path = n.path ++ path }

pub joined_on_line : (s : Spot) → s.gap ≡ gap.Joined → on_line s ≡ true
joined_on_line s e = rw e

last_word : (u : Use) (w : List ℕ) (n : TypeName) → EndsName u w → (g : Gap) (ts rest : List Token) → Fits g (path_pieces (w ∷ [])) ts rest → scope_follows rest ≡ false → Words u n (grown n w) ts rest
last_word u w n (inl h) g ts rest f e =
    let (s, more, at, j, end) = first g (word_token w) w (kind.Upper w) (upper_word w h.1) [] ts rest f in
    subst (λ ts. Words u n (grown n w) ts rest) (sym (onward at end)) (capital w s h.0 e)
last_word u w n (inr (inl h)) g ts rest f e =
    let (s, more, at, j, end) = first g (word_token w) w (kind.Interface w) (interface_word w h.1) [] ts rest f in
    subst (λ ts. Words u n (grown n w) ts rest) (sym (onward at end)) (interface w s h.0)
last_word u w n (inr (inr h)) g ts rest f e =
    let (s, more, at, j, end) = first g (word_token w) w (kind.Lower w) (small_word w h.1 h.2) [] ts rest f in
    subst (λ ts. Words u n (grown n w) ts rest) (sym (onward at end)) (small w s h.0)

words_read : (u : Use) (path : List (List ℕ)) (n : TypeName) → IsPath u path → (g : Gap) (ts rest : List Token) → Fits g (path_pieces path) ts rest → scope_follows rest ≡ false → Words u n (with_path n path) ts rest
words_read u [] n h g ts rest f e = absurd h
words_read u (w ∷ []) n h g ts rest f e = last_word u w n h g ts rest f e
words_read u (w ∷ v ∷ ws) n h g ts rest f e =
    let (s, more, at, j, f') = first g (word_token w) w (kind.Upper w) (upper_word w h.0) (lay.sign mark.Scope ∷ path_pieces (v ∷ ws)) ts rest f in
    let (s', more', at', j', f'') = first_mark gap.Joined mark.Scope (path_pieces (v ∷ ws)) more rest f' in
    let behind : Words u (grown n w) (with_path (grown n w) (v ∷ ws)) more' rest = words_read u (v ∷ ws) (grown n w) h.1 gap.Joined more' rest f'' e in
    let same : with_path (grown n w) (v ∷ ws) ≡ with_path n (w ∷ v ∷ ws) = ap (λ path. record { rooted = n.rooted; path = path }) (append_assoc n.path (w ∷ []) (v ∷ ws)) in
    subst (λ ts. Words u n (with_path n (w ∷ v ∷ ws)) ts rest) (sym (onward at at'))
    (outer w s s' (joined_on_line s' j') (subst (λ m. Words u (grown n w) m more' rest) same behind))

rooted_read : (u : Use) (r : Bool) (path : List (List ℕ)) → IsPath u path → (g : Gap) (ts rest : List Token) → Fits g (name_pieces (record { rooted = r; path = path })) ts rest → scope_follows rest ≡ false
    → Name u (record { rooted = r; path = path }) ts rest
rooted_read u false path h g ts rest f e = relative (words_read u path no_name h g ts rest f e)
rooted_read u true path h g ts rest f e =
    let (s, more, at, j, f') = first_mark g mark.Scope (path_pieces path) ts rest f in
    subst (λ ts. Name u (record { rooted = true; path = path }) ts rest) (sym at) (rooted s (words_read u path root h gap.Joined more rest f' e))

-- a printed name, where no `::` follows on its line
pub name_read : (u : Use) (n : TypeName) → IsName u n → (g : Gap) (ts rest : List Token) → Fits g (name_pieces n) ts rest → scope_follows rest ≡ false → Name u n ts rest
name_read u n h g ts rest f e = rooted_read u n.rooted n.path h g ts rest f e
