-- Printed lists of types and of keys are lists of the grammar.
use Rattle.std.proofs.Common.{ℕ, ◌≡◌, refl, sym, subst, Bool, true, false, List, [], ◌∷◌, ◌++◌}
use Rattle.std.specs.Prelude.{not, ◌&&◌}
use Rattle.names.specs.Places.{same_name}
use Rattle.names.proofs.Places.{same_name-true, same_name-self}
use Rattle.rbs_lexer.specs.Names.{IsLower}
use Rattle.rbs_lexer.proofs.Bytes.{and_true, bool_cases}
use Rattle.rbs_terminals.specs.declared.token.Token.{Token}
use Rattle.rbs_terminals.specs.declared.token.Spot.{Spot}
use Rattle.rbs_terminals.specs.declared.token.Gap.{Gap}
use Rattle.rbs_terminals.specs.declared.token.Gap.TheVariants as gap
use Rattle.rbs_terminals.specs.declared.token.Mark.{Mark}
use Rattle.rbs_terminals.specs.declared.token.Mark.TheVariants as mark
use Rattle.rbs_terminals.specs.Kinds.{kind_at}
use Rattle.sig_model.specs.PlainTy as plain
use Rattle.sig_model.specs.PlainTy.{PlainTy, PlainTys, PlainKeys, append_tys, append_keys}
use Rattle.sig_model.specs.PlainTyLaws.{append_tys-assoc, append_keys-assoc}
use Rattle.rbs_types.specs.Symbols.{token, sign}
use Rattle.rbs_types.specs.Plains.{and_ty, and_key, is_new}
use Rattle.rbs_types.specs.Grammar as grammar
use Rattle.rbs_types.specs.Grammar.{Sort, Spells, Lists, Key, Keys}
use Rattle.rbs_printer.specs.Types.{Site, whole}
use Rattle.printed_tokens.specs.Pieces.{Piece, blank}
use Rattle.printed_tokens.specs.Layout as lay
use Rattle.printed_tokens.specs.Layout.{word_token, joined, comma, type_pieces, placed, types_at, key_pieces, keys_pieces}
use Rattle.printed_tokens.specs.Fits.{Fits}
use Rattle.printed_signatures.specs.Writable.{AreKeys}
use Rattle.printed_signatures.proofs.Split.{gap_behind, split, first, first_mark, onward}
use Rattle.printed_signatures.proofs.WordKinds.{lower_word}
use Rattle.printed_signatures.proofs.Sites.{Quiet, Reads, read_whole}

abbrev pub AllRead : PlainTys → Type 0
AllRead plain.no_tys = Unit {0}
AllRead (plain.more_tys t ts) = Reads t × AllRead ts

abbrev pub KeysRead : PlainKeys → Type 0
KeysRead plain.no_keys = Unit {0}
KeysRead (plain.more_keys w needed t ks) = Reads t × KeysRead ks

-- these pieces are the mark, with blanks around it
abbrev pub Separates : List Piece → Mark → Type 0
Separates by m = (g : Gap) (ts rest : List Token) → Fits g by ts rest → (s : Spot) × (ts ≡ sign m s ∷ rest)

pub comma_separates : Separates comma mark.Comma
comma_separates g ts rest f = let (s, more, at, j, e) = first_mark g mark.Comma (blank ∷ []) ts rest f in (s, onward at e)

pub mark_separates : (m : Mark) → Separates (blank ∷ lay.sign m ∷ blank ∷ []) m
mark_separates m g ts rest f = let (s, more, at, j, e) = first_mark gap.Blank m (blank ∷ []) ts rest f in (s, onward at e)

-- the first of some lists of pieces with a mark between each two, and what stands behind the mark
pub parted : (by : List Piece) (m : Mark) → Separates by m → (w : List Piece) (v : List Piece) (ws : List (List Piece)) (g : Gap) (ts rest : List Token) → Fits g (joined by (w ∷ v ∷ ws)) ts rest
    → (s : Spot) × (more : List Token) × Fits g w ts (sign m s ∷ more) × Fits (gap_behind g (w ++ by)) (joined by (v ∷ ws)) more rest
parted by m separates w v ws g ts rest f =
    let (more, a, b) = split g (w ++ by) (joined by (v ∷ ws)) ts rest f in
    let (mid, c, d) = split g w by ts more a in
    let (s, at) = separates (gap_behind g w) mid more d in
    (s, more, subst (Fits g w ts) at c, b)

-- ---- types

-- the mark ends a type
abbrev pub IsQuiet : Mark → Type 0
IsQuiet m = (s : Spot) (more : List Token) → Quiet (sign m s ∷ more)

-- types printed at a place are read as phrases of a sort
abbrev pub ReadsAt : Sort → Site → Type 0
ReadsAt x place = (t : PlainTy) → Reads t → (g : Gap) (ts rest : List Token) → Fits g (placed place t (type_pieces t)) ts rest → Quiet rest → Spells x t ts rest

module _ (x : Sort) (place : Site) (at_place : ReadsAt x place) (by : List Piece) (m : Mark) (separates : Separates by m) (quiet : IsQuiet m) where
  pub lists_read : (before : PlainTys) (t : PlainTy) (us : PlainTys) → Reads t → AllRead us → (g : Gap) (ts rest : List Token) → Fits g (joined by (placed place t (type_pieces t) ∷ types_at place us)) ts rest → Quiet rest
      → Lists x m before (append_tys before (plain.more_tys t us)) ts rest
  lists_read before t plain.no_tys r rs g ts rest f q = grammar.one (at_place t r g ts rest f q)
  lists_read before t (plain.more_tys u us) r rs g ts rest f q =
      let (s, more, a, b) = parted by m separates (placed place t (type_pieces t)) (placed place u (type_pieces u)) (types_at place us) g ts rest f in
      let here : Spells x t ts (sign m s ∷ more) = at_place t r g ts (sign m s ∷ more) a (quiet s more) in
      subst (λ all. Lists x m before all ts rest) (append_tys-assoc before (plain.more_tys t plain.no_tys) (plain.more_tys u us))
      (grammar.more s here (lists_read (and_ty before t) u us rs.0 rs.1 (gap_behind g (placed place t (type_pieces t) ++ by)) more rest b q))

-- types by commas
pub types_read : (before : PlainTys) (t : PlainTy) (us : PlainTys) → Reads t → AllRead us → (g : Gap) (ts rest : List Token) → Fits g (joined comma (type_pieces t ∷ types_at whole us)) ts rest → Quiet rest
    → Lists grammar.type mark.Comma before (append_tys before (plain.more_tys t us)) ts rest
types_read before t us r rs g ts rest f q = lists_read grammar.type whole read_whole comma mark.Comma comma_separates (λ s more. (refl, refl)) before t us r rs g ts rest f q

-- ---- keys that are new

abbrev pub AllNew : PlainKeys → PlainKeys → Type 0
AllNew before plain.no_keys = Unit {0}
AllNew before (plain.more_keys w needed t ks) = (is_new w before ≡ true) × AllNew before ks

pub all_new : (ks : PlainKeys) → AllNew plain.no_keys ks
all_new plain.no_keys = tt
all_new (plain.more_keys w needed t ks) = (refl, all_new ks)

pub both : (a b : Bool) → a ≡ true → b ≡ true → (a && b) ≡ true
both a b e f = rw (e, f)

pub differ : (v w : List ℕ) → not (same_name v w) ≡ true → not (same_name w v) ≡ true
differ v w e = bool_cases (same_name w v)
    (λ s. let is : w ≡ v = same_name-true w v s in let same : same_name v w ≡ true = subst (λ w. same_name v w ≡ true) (sym is) (same_name-self v) in absurd (cc)) (λ f. rw f)

new_behind : (v : List ℕ) (before : PlainKeys) (w : List ℕ) (needed : Bool) (t : PlainTy) → is_new v before ≡ true → not (same_name v w) ≡ true → is_new v (and_key before w needed t) ≡ true
new_behind v plain.no_keys w needed t e f = both (not (same_name v w)) true f refl
new_behind v (plain.more_keys k n u ks) w needed t e f =
    let parts = and_true (not (same_name v k)) (is_new v ks) e in both (not (same_name v k)) (is_new v (and_key ks w needed t)) parts.0 (new_behind v ks w needed t parts.1 f)

-- what differs from this key and those before it differs from all of them
pub all_new_behind : (before : PlainKeys) (w : List ℕ) (needed : Bool) (t : PlainTy) (ks : PlainKeys) → AllNew before ks → is_new w ks ≡ true → AllNew (and_key before w needed t) ks
all_new_behind before w needed t plain.no_keys h e = tt
all_new_behind before w needed t (plain.more_keys v n u ks) h e =
    let parts = and_true (not (same_name w v)) (is_new w ks) e in
    (new_behind v before w needed t h.0 (differ w v parts.0), all_new_behind before w needed t ks h.1 parts.1)

-- ---- keys

-- a key, up to its type
pub key_begins : (w : List ℕ) → IsLower w → (g : Gap) (ps : List Piece) (ts rest : List Token) → Fits g (lay.word w ∷ lay.sign mark.Colon ∷ blank ∷ ps) ts rest
    → (s : Spot) × (s' : Spot) × (more : List Token) × (ts ≡ token (kind_at (word_token w) w) s ∷ sign mark.Colon s' ∷ more) × Fits gap.Blank ps more rest
key_begins w l g ps ts rest f =
    let (s, more, at, j, b) = first g (word_token w) w (kind_at (word_token w) w) refl (lay.sign mark.Colon ∷ blank ∷ ps) ts rest f in
    let (s', more', at', j', c) = first_mark gap.Joined mark.Colon (blank ∷ ps) more rest b in
    (s, s', more', onward at at', c)

pub key_read : (before : PlainKeys) (w : List ℕ) (needed : Bool) (t : PlainTy) → IsLower w → is_new w before ≡ true → Reads t → (g : Gap) (ts rest : List Token) → Fits g (key_pieces w needed ++ type_pieces t) ts rest
    → Quiet rest → Key before (and_key before w needed t) ts rest
key_read before w true t l new r g ts rest f q =
    let (s, s', more, at, b) = key_begins w l g (type_pieces t) ts rest f in
    subst (λ ts. Key before (and_key before w true t) ts rest) (sym at) (grammar.needed_key (kind_at (word_token w) w) w s s' (lower_word w l) new (read_whole t r gap.Blank more rest b q))
key_read before w false t l new r g ts rest f q =
    let (s, more, at, j, b) = first_mark g mark.Question (lay.word w ∷ lay.sign mark.Colon ∷ blank ∷ type_pieces t) ts rest f in
    let (s', s'', more', at', c) = key_begins w l gap.Joined (type_pieces t) more rest b in
    subst (λ ts. Key before (and_key before w false t) ts rest) (sym (onward at at'))
    (grammar.optional_key (kind_at (word_token w) w) w s s' s'' (lower_word w l) new (read_whole t r gap.Blank more' rest c q))

pub keys_read : (before : PlainKeys) (w : List ℕ) (needed : Bool) (t : PlainTy) (ks : PlainKeys) → AreKeys (plain.more_keys w needed t ks) → AllNew before (plain.more_keys w needed t ks) → Reads t → KeysRead ks
    → (g : Gap) (ts rest : List Token) → Fits g (joined comma ((key_pieces w needed ++ type_pieces t) ∷ keys_pieces ks)) ts rest → Quiet rest → Keys before (append_keys before (plain.more_keys w needed t ks)) ts rest
keys_read before w needed t plain.no_keys k new r rs g ts rest f q = grammar.last_key (key_read before w needed t k.0 new.0 r g ts rest f q)
keys_read before w needed t (plain.more_keys v n u ks) k new r rs g ts rest f q =
    let (s, more, a, b) = parted comma mark.Comma comma_separates (key_pieces w needed ++ type_pieces t) (key_pieces v n ++ type_pieces u) (keys_pieces ks) g ts rest f in
    let here : Key before (and_key before w needed t) ts (sign mark.Comma s ∷ more) = key_read before w needed t k.0 new.0 r g ts (sign mark.Comma s ∷ more) a (refl, refl) in
    subst (λ all. Keys before all ts rest) (append_keys-assoc before (plain.more_keys w needed t plain.no_keys) (plain.more_keys v n u ks))
    (grammar.more_keys s here (keys_read (and_key before w needed t) v n u ks k.3 (all_new_behind before w needed t (plain.more_keys v n u ks) new.1 k.1) rs.0 rs.1 (gap_behind g (key_pieces w needed ++ type_pieces t ++ comma)) more rest b q))
