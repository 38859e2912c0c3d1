-- Printed functions are functions of the grammar.
use Rattle.std.proofs.Common.{ℕ, ◌≡◌, refl, sym, ap, subst, Bool, true, false, List, [], ◌∷◌, ◌++◌, append_assoc, Option, Some, None, inl, inr}
use Rattle.std.specs.Prelude.{◌⊎◌, ◌&&◌, if◌then◌else◌}
use Rattle.rbs_lexer.specs.Names.{IsLower}
use Rattle.rbs_terminals.specs.declared.token.Token.{Token}
use Rattle.rbs_terminals.specs.declared.token.Spot.{Spot}
use Rattle.rbs_terminals.specs.declared.token.Gap.{Gap}
use Rattle.rbs_terminals.specs.declared.token.Gap.TheVariants as gap
use Rattle.rbs_terminals.specs.declared.token.Mark.{Mark}
use Rattle.rbs_terminals.specs.declared.token.Mark.TheVariants as mark
use Rattle.rbs_terminals.specs.declared.token.Kind.{Kind}
use Rattle.rbs_terminals.specs.declared.token.Kind.TheVariants as kind
use Rattle.rbs_terminals.specs.Kinds.{kind_at, lower_of}
use Rattle.sig_model.specs.PlainTy as plain
use Rattle.sig_model.specs.PlainTy.{PlainTy, PlainTys, PlainKeys, PlainArgs, PlainRest, PlainFun, PlainBlock, append_args, append_keys}
use Rattle.sig_model.specs.PlainTyLaws.{append_args-none, append_args-assoc, append_keys-none, append_keys-assoc}
use Rattle.rbs_types.specs.declared.state.Parameters as the_parameters
use Rattle.rbs_types.specs.declared.state.Listed as the_listed
use Rattle.rbs_types.specs.Symbols.{token, sign, scope_at, scope_follows, is_question}
use Rattle.rbs_types.specs.Plains.{and_arg, and_key, is_new, no_arg, no_rest_yet}
use Rattle.rbs_types.specs.Parts.{no_parameters, closed, nothing_listed, and_positional, and_keyword}
use Rattle.rbs_types.specs.Grammar as grammar
use Rattle.rbs_types.specs.Grammar.{Spells, Function, Listed, Blocked, Braced, Argument}
use Rattle.rbs_printer.specs.Types.{result as in_result, result_of}
use Rattle.printed_tokens.specs.Pieces.{Piece, blank}
use Rattle.printed_tokens.specs.Layout as lay
use Rattle.printed_tokens.specs.Layout.{word_token, joined, comma, type_pieces, name_behind, key_pieces, keys_pieces, arguments, rest_of, block_pieces, function_pieces, placed}
use Rattle.printed_tokens.specs.Fits.{Fits}
use Rattle.printed_signatures.specs.Writable.{IsParameterName, AreArguments, IsRest, AreKeys, IsFunction, IsBlock, has_no_block}
use Rattle.printed_signatures.proofs.Split.{gap_behind, unpadded, first_mark, spaced, mark_between, mark_spaced, last_spaced, onward}
use Rattle.printed_signatures.proofs.WordKinds.{lower_word}
use Rattle.printed_signatures.proofs.Sites.{Quiet, Reads, read_whole, Done, read_result}
use Rattle.printed_signatures.proofs.ListsRead.{KeysRead, comma_separates, parted, AllNew, all_new, all_new_behind, key_begins}

abbrev pub ArgumentsRead : PlainArgs → Type 0
ArgumentsRead plain.no_args = Unit {0}
ArgumentsRead (plain.more_args t n more) = Reads t × ArgumentsRead more

abbrev pub RestRead : PlainRest → Type 0
RestRead plain.no_rest = Unit {0}
RestRead (plain.rest t n) = Reads t

abbrev mutual
  pub FunctionRead : PlainFun → Type 0
  FunctionRead (plain.function required optional more trailing keys key_more blk t) =
      ArgumentsRead required × ArgumentsRead optional × RestRead more × ArgumentsRead trailing × KeysRead keys × RestRead key_more × BlockRead blk × Reads t

  pub BlockRead : PlainBlock → Type 0
  BlockRead plain.no_block = Unit {0}
  BlockRead (plain.block needed f) = FunctionRead f

-- ---- one parameter

word_quiet : (k : Kind) (s : Spot) (w : List ℕ) → lower_of k ≡ Some w → (scope_at k s ≡ false) × (is_question k ≡ false)
word_quiet (kind.Mark m) s w e = absurd (cc)
word_quiet _ s w e = (refl, refl)

pub argument_read : (t : PlainTy) (n : Option (List ℕ)) → Reads t → IsParameterName n → (g : Gap) (ts rest : List Token) → Fits g (type_pieces t ++ name_behind n) ts rest → Quiet rest → Argument t n ts rest
argument_read t None r l g ts rest f q = grammar.unnamed (read_whole t r g ts rest (unpadded g (type_pieces t) ts rest f) q)
argument_read t (Some w) r l g ts rest f q =
    let (s, more, a, j, e) = spaced g (type_pieces t) (word_token w) w (kind_at (word_token w) w) refl [] ts rest f in
    let a' = subst (λ more. Fits g (type_pieces t) ts (token (kind_at (word_token w) w) s ∷ more)) e a in
    grammar.named (kind_at (word_token w) w) w s (lower_word w l) (read_whole t r g ts (token (kind_at (word_token w) w) s ∷ rest) a' (word_quiet (kind_at (word_token w) w) s w (lower_word w l)))

-- with a mark before it
marked_read : (m : Mark) (t : PlainTy) (n : Option (List ℕ)) → Reads t → IsParameterName n → (g : Gap) (ts rest : List Token) → Fits g (lay.sign m ∷ type_pieces t ++ name_behind n) ts rest → Quiet rest
    → (s : Spot) × (more : List Token) × (ts ≡ sign m s ∷ more) × Argument t n more rest
marked_read m t n r l g ts rest f q =
    let (s, more, at, j, b) = first_mark g m (type_pieces t ++ name_behind n) ts rest f in (s, more, at, argument_read t n r l gap.Joined more rest b q)

-- ---- parameters

-- these pieces are read as a parameter that leads from the first parameters to the others
abbrev pub Steps : the_parameters.Parameters → the_parameters.Parameters → List Piece → Type 0
Steps p q w = (g : Gap) (ts rest : List Token) → Fits g w ts rest → Quiet rest → grammar.Parameter p q ts rest

-- behind the parameters `p`, those of these pieces make them `l`
abbrev pub Goes : the_parameters.Parameters → the_listed.Listed → List (List Piece) → Type 0
Goes p l [] = l ≡ closed p
Goes p l (w ∷ ws) = (g : Gap) (ts rest : List Token) → Fits g (joined comma (w ∷ ws)) ts rest → Quiet rest → grammar.Parameters p l ts rest

goes_on : (p q : the_parameters.Parameters) (l : the_listed.Listed) (w : List Piece) (ws : List (List Piece)) → Steps p q w → Goes q l ws → Goes p l (w ∷ ws)
goes_on p q l w [] step e g ts rest f quiet = subst (λ l. grammar.Parameters p l ts rest) (sym e) (grammar.last (step g ts rest f quiet))
goes_on p q l w (v ∷ ws) step more g ts rest f quiet =
    let (s, behind, a, b) = parted comma mark.Comma comma_separates w v ws g ts rest f in
    grammar.further s (step g ts (sign mark.Comma s ∷ behind) a (refl, refl)) (more (gap_behind g (w ++ comma)) behind rest b quiet)

abbrev parameters : PlainArgs → PlainArgs → PlainRest → PlainArgs → PlainKeys → the_parameters.Parameters
parameters required optional more trailing keys = record { required = required; optional = optional; rest = more; trailing = trailing; keys = keys }

key_rest_goes : (p : the_parameters.Parameters) (more : PlainRest) → RestRead more → IsRest more → Goes p (record { parameters = p; key_rest = more }) (rest_of (lay.sign mark.DoubleStar ∷ []) more)
key_rest_goes p plain.no_rest r l = refl
key_rest_goes p (plain.rest t n) r l = λ g ts rest f q.
    let (s, behind, at, d) = marked_read mark.DoubleStar t n r l.1 g ts rest f q in
    subst (λ ts. grammar.Parameters p (record { parameters = p; key_rest = plain.rest t n }) ts rest) (sym at) (grammar.key_rest s d)

keyword_steps : (p : the_parameters.Parameters) (w : List ℕ) (needed : Bool) (t : PlainTy) → IsLower w → is_new w p.keys ≡ true → Reads t → Steps p (and_keyword p w needed t) (key_pieces w needed ++ type_pieces t)
keyword_steps p w true t l new r g ts rest f q =
    let (s, s', more, at, b) = key_begins w l g (type_pieces t) ts rest f in
    subst (λ ts. grammar.Parameter p (and_keyword p w true t) ts rest) (sym at) (grammar.needed_keyword (kind_at (word_token w) w) w s s' (lower_word w l) new (read_whole t r gap.Blank more rest b q))
keyword_steps p w false t l new r g ts rest f q =
    let (s, more, at, j, b) = first_mark g mark.Question (lay.word w ∷ lay.sign mark.Colon ∷ blank ∷ type_pieces t) ts rest f in
    let (s', s'', more', at', c) = key_begins w l gap.Joined (type_pieces t) more rest b in
    subst (λ ts. grammar.Parameter p (and_keyword p w false t) ts rest) (sym (onward at at'))
    (grammar.optional_keyword (kind_at (word_token w) w) w s s' s'' (lower_word w l) new (read_whole t r gap.Blank more' rest c q))

keys_go : (a b : PlainArgs) (e : PlainRest) (c : PlainArgs) (before ks : PlainKeys) (l : the_listed.Listed) (ws : List (List Piece)) → KeysRead ks → AreKeys ks → AllNew before ks
    → Goes (parameters a b e c (append_keys before ks)) l ws → Goes (parameters a b e c before) l (keys_pieces ks ++ ws)
keys_go a b e c before plain.no_keys l ws r h new go = subst (λ ks. Goes (parameters a b e c ks) l ws) (append_keys-none before) go
keys_go a b e c before (plain.more_keys w needed t ks) l ws r h new go =
    goes_on (parameters a b e c before) (parameters a b e c (and_key before w needed t)) l (key_pieces w needed ++ type_pieces t) (keys_pieces ks ++ ws)
    (keyword_steps (parameters a b e c before) w needed t h.0 new.0 r.0)
    (keys_go a b e c (and_key before w needed t) ks l ws r.1 h.3 (all_new_behind before w needed t ks new.1 h.1)
    (subst (λ ks. Goes (parameters a b e c ks) l ws) (sym (append_keys-assoc before (plain.more_keys w needed t plain.no_keys) ks)) go))

-- a positional parameter behind an optional one or the rest
trailing_one : (a b : PlainArgs) (e : PlainRest) (c : PlainArgs) (ks : PlainKeys) (t : PlainTy) (n : Option (List ℕ)) → (no_arg b && no_rest_yet e) ≡ false
    → and_positional (parameters a b e c ks) t n ≡ parameters a b e (and_arg c t n) ks
trailing_one a b e c ks t n h = ap (λ (x : Bool). if x then parameters (and_arg a t n) b e c ks else parameters a b e (and_arg c t n) ks) h

trailing_go : (a b : PlainArgs) (e : PlainRest) (before more : PlainArgs) (l : the_listed.Listed) (ws : List (List Piece)) → (no_arg more ≡ true) ⊎ ((no_arg b && no_rest_yet e) ≡ false) → ArgumentsRead more → AreArguments more
    → Goes (parameters a b e (append_args before more) plain.no_keys) l ws → Goes (parameters a b e before plain.no_keys) l (arguments [] more ++ ws)
trailing_go a b e before plain.no_args l ws o r h go = subst (λ c. Goes (parameters a b e c plain.no_keys) l ws) (append_args-none before) go
trailing_go a b e before (plain.more_args t n more) l ws (inl o) r h go = absurd (cc)
trailing_go a b e before (plain.more_args t n more) l ws (inr o) r h go =
    goes_on (parameters a b e before plain.no_keys) (parameters a b e (and_arg before t n) plain.no_keys) l (type_pieces t ++ name_behind n) (arguments [] more ++ ws)
    (λ g ts rest f q. subst (λ x. grammar.Parameter (parameters a b e before plain.no_keys) x ts rest) (trailing_one a b e before plain.no_keys t n o)
    (grammar.positional refl (argument_read t n r.0 h.1 g ts rest f q)))
    (trailing_go a b e (and_arg before t n) more l ws (inr o) r.1 h.2
    (subst (λ c. Goes (parameters a b e c plain.no_keys) l ws) (sym (append_args-assoc before (plain.more_args t n plain.no_args) more)) go))

rest_go : (a b : PlainArgs) (more : PlainRest) (l : the_listed.Listed) (ws : List (List Piece)) → RestRead more → IsRest more
    → Goes (parameters a b more plain.no_args plain.no_keys) l ws → Goes (parameters a b plain.no_rest plain.no_args plain.no_keys) l (rest_of (lay.sign mark.Star ∷ []) more ++ ws)
rest_go a b plain.no_rest l ws r h go = go
rest_go a b (plain.rest t n) l ws r h go =
    goes_on (parameters a b plain.no_rest plain.no_args plain.no_keys) (parameters a b (plain.rest t n) plain.no_args plain.no_keys) l (lay.sign mark.Star ∷ type_pieces t ++ name_behind n) ws
    (λ g ts rest f q. let (s, behind, at, d) = marked_read mark.Star t n r h.1 g ts rest f q in
    subst (λ ts. grammar.Parameter (parameters a b plain.no_rest plain.no_args plain.no_keys) (parameters a b (plain.rest t n) plain.no_args plain.no_keys) ts rest) (sym at) (grammar.rest_of s refl d))
    go

optional_go : (a before more : PlainArgs) (l : the_listed.Listed) (ws : List (List Piece)) → ArgumentsRead more → AreArguments more
    → Goes (parameters a (append_args before more) plain.no_rest plain.no_args plain.no_keys) l ws → Goes (parameters a before plain.no_rest plain.no_args plain.no_keys) l (arguments (lay.sign mark.Question ∷ []) more ++ ws)
optional_go a before plain.no_args l ws r h go = subst (λ b. Goes (parameters a b plain.no_rest plain.no_args plain.no_keys) l ws) (append_args-none before) go
optional_go a before (plain.more_args t n more) l ws r h go =
    goes_on (parameters a before plain.no_rest plain.no_args plain.no_keys) (parameters a (and_arg before t n) plain.no_rest plain.no_args plain.no_keys) l (lay.sign mark.Question ∷ type_pieces t ++ name_behind n)
    (arguments (lay.sign mark.Question ∷ []) more ++ ws)
    (λ g ts rest f q. let (s, behind, at, d) = marked_read mark.Question t n r.0 h.1 g ts rest f q in
    subst (λ ts. grammar.Parameter (parameters a before plain.no_rest plain.no_args plain.no_keys) (parameters a (and_arg before t n) plain.no_rest plain.no_args plain.no_keys) ts rest) (sym at) (grammar.optional s refl d))
    (optional_go a (and_arg before t n) more l ws r.1 h.2
    (subst (λ b. Goes (parameters a b plain.no_rest plain.no_args plain.no_keys) l ws) (sym (append_args-assoc before (plain.more_args t n plain.no_args) more)) go))

required_go : (before more : PlainArgs) (l : the_listed.Listed) (ws : List (List Piece)) → ArgumentsRead more → AreArguments more
    → Goes (parameters (append_args before more) plain.no_args plain.no_rest plain.no_args plain.no_keys) l ws → Goes (parameters before plain.no_args plain.no_rest plain.no_args plain.no_keys) l (arguments [] more ++ ws)
required_go before plain.no_args l ws r h go = subst (λ a. Goes (parameters a plain.no_args plain.no_rest plain.no_args plain.no_keys) l ws) (append_args-none before) go
required_go before (plain.more_args t n more) l ws r h go =
    goes_on (parameters before plain.no_args plain.no_rest plain.no_args plain.no_keys) (parameters (and_arg before t n) plain.no_args plain.no_rest plain.no_args plain.no_keys) l (type_pieces t ++ name_behind n) (arguments [] more ++ ws)
    (λ g ts rest f q. grammar.positional refl (argument_read t n r.0 h.1 g ts rest f q))
    (required_go (and_arg before t n) more l ws r.1 h.2
    (subst (λ a. Goes (parameters a plain.no_args plain.no_rest plain.no_args plain.no_keys) l ws) (sym (append_args-assoc before (plain.more_args t n plain.no_args) more)) go))

abbrev pub all_pieces : PlainArgs → PlainArgs → PlainRest → PlainArgs → PlainKeys → PlainRest → List (List Piece)
all_pieces required optional more trailing keys key_more =
    arguments [] required ++ arguments (lay.sign mark.Question ∷ []) optional ++ rest_of (lay.sign mark.Star ∷ []) more ++ arguments [] trailing ++ keys_pieces keys ++ rest_of (lay.sign mark.DoubleStar ∷ []) key_more

-- ---- functions

-- all parameters of a function
abbrev pub listed_of : PlainFun → the_listed.Listed
listed_of (plain.function required optional more trailing keys key_more blk t) = record { parameters = parameters required optional more trailing keys; key_rest = key_more }

abbrev pub pieces_of : PlainFun → List (List Piece)
pieces_of (plain.function required optional more trailing keys key_more blk t) = all_pieces required optional more trailing keys key_more

regrouped : (a b c d e f : List (List Piece)) → a ++ (b ++ (c ++ (d ++ (e ++ f)))) ≡ a ++ b ++ c ++ d ++ e ++ f
regrouped a b c d e f = simp append_assoc

all_go : (f : PlainFun) → FunctionRead f → IsFunction f → Goes no_parameters (listed_of f) (pieces_of f)
all_go (plain.function required optional more trailing keys key_more blk t) r h =
    subst (Goes no_parameters (listed_of (plain.function required optional more trailing keys key_more blk t)))
    (regrouped (arguments [] required) (arguments (lay.sign mark.Question ∷ []) optional) (rest_of (lay.sign mark.Star ∷ []) more) (arguments [] trailing) (keys_pieces keys) (rest_of (lay.sign mark.DoubleStar ∷ []) key_more))
    (required_go plain.no_args required _ _ r.0 h.0
    (optional_go required plain.no_args optional _ _ r.1 h.1
    (rest_go required optional more _ _ r.2 h.2
    (trailing_go required optional more plain.no_args trailing _ _ h.4 r.3 h.3
    (keys_go required optional more trailing plain.no_keys keys _ _ r.4 h.5 (all_new keys) (key_rest_goes (parameters required optional more trailing keys) key_more r.5 h.6))))))

listed_read : (l : the_listed.Listed) (ws : List (List Piece)) → Goes no_parameters l ws → (g : Gap) (qs : List Piece) (ts rest : List Token) → Fits g (lay.sign mark.Open ∷ joined comma ws ++ lay.sign mark.Close ∷ qs) ts rest
    → (mid : List Token) × Listed l ts mid × Fits gap.Joined qs mid rest
listed_read l [] e g qs ts rest f =
    let (s, more, at, j, b) = first_mark g mark.Open (lay.sign mark.Close ∷ qs) ts rest f in
    let (s', mid, at', j', c) = first_mark gap.Joined mark.Close qs more rest b in
    (mid, subst (λ l. Listed l ts mid) (sym e) (subst (λ ts. Listed nothing_listed ts mid) (sym (onward at at')) (grammar.empty s s')), c)
listed_read l (w ∷ ws) go g qs ts rest f =
    let (s, more, at, j, b) = first_mark g mark.Open (joined comma (w ∷ ws) ++ lay.sign mark.Close ∷ qs) ts rest f in
    let (s', mid, a, j', c) = mark_between gap.Joined (joined comma (w ∷ ws)) mark.Close qs more rest b in
    (mid, subst (λ ts. Listed l ts mid) (sym at) (grammar.listed s s' (go gap.Joined more (sign mark.Close s' ∷ mid) a (refl, refl))), c)

-- behind the parameters and the block: the arrow and the result
arrow_read : (t : PlainTy) → Reads t → (ps : List Piece) (g : Gap) (ts rest : List Token) → Fits g (ps ++ blank ∷ lay.sign mark.Arrow ∷ blank ∷ placed in_result t (type_pieces t)) ts rest → scope_follows rest ≡ false → Done t rest
    → (s : Spot) × (more : List Token) × Fits g ps ts (sign mark.Arrow s ∷ more) × Spells grammar.result t more rest
arrow_read t r ps g ts rest f q d =
    let (s, more, a, j, b) = mark_spaced g ps mark.Arrow (blank ∷ placed in_result t (type_pieces t)) ts rest f in
    (s, more, a, read_result t r gap.Blank more rest b q d)

braced_read : (f : PlainFun) → FunctionRead f → IsFunction f → has_no_block f ≡ true → (g : Gap) (ts rest : List Token) → Fits g (function_pieces f ++ blank ∷ lay.sign mark.CloseBrace ∷ []) ts rest → Braced f ts rest
braced_read (plain.function required optional more trailing keys key_more (plain.block needed f) t) r h e g ts rest k = absurd (cc)
braced_read (plain.function required optional more trailing keys key_more plain.no_block t) r h e g ts rest k =
    let whole = plain.function required optional more trailing keys key_more plain.no_block t in
    let (s', a) = last_spaced g (function_pieces whole) mark.CloseBrace ts rest k in
    let (s, behind, b, d) = arrow_read t r.7 (lay.sign mark.Open ∷ joined comma (pieces_of whole) ++ lay.sign mark.Close ∷ []) g ts (sign mark.CloseBrace s' ∷ rest) a refl (inr refl) in
    let (mid, l, at) = listed_read (listed_of whole) (pieces_of whole) (all_go whole r h) g [] ts (sign mark.Arrow s ∷ behind) b in
    grammar.braced s s' (subst (λ mid. Listed (listed_of whole) ts mid) at l) d

blocked_read : (b : PlainBlock) → BlockRead b → IsBlock b → (ts rest : List Token) → Fits gap.Joined (block_pieces b) ts rest → Blocked b ts rest
blocked_read plain.no_block r h ts rest e = subst (λ rest. Blocked plain.no_block ts rest) e grammar.no_block
blocked_read (plain.block true f) r h ts rest k =
    let (s, more, at, j, b) = first_mark gap.Blank mark.OpenBrace (blank ∷ function_pieces f ++ blank ∷ lay.sign mark.CloseBrace ∷ []) ts rest k in
    subst (λ ts. Blocked (plain.block true f) ts rest) (sym at) (grammar.needed_block s (braced_read f r h.0 h.1 gap.Blank more rest b))
blocked_read (plain.block false f) r h ts rest k =
    let (s, more, at, j, b) = first_mark gap.Blank mark.Question (lay.sign mark.OpenBrace ∷ blank ∷ function_pieces f ++ blank ∷ lay.sign mark.CloseBrace ∷ []) ts rest k in
    let (s', more', at', j', c) = first_mark gap.Joined mark.OpenBrace (blank ∷ function_pieces f ++ blank ∷ lay.sign mark.CloseBrace ∷ []) more rest b in
    subst (λ ts. Blocked (plain.block false f) ts rest) (sym (onward at at')) (grammar.optional_block s s' (braced_read f r h.0 h.1 gap.Blank more' rest c))

-- a printed function, where no question mark follows or one stands behind its result
pub function_read : (f : PlainFun) → FunctionRead f → IsFunction f → (g : Gap) (ts rest : List Token) → Fits g (function_pieces f) ts rest → scope_follows rest ≡ false → Done (result_of f) rest → Function f ts rest
function_read (plain.function required optional more trailing keys key_more blk t) r h g ts rest k q d =
    let whole = plain.function required optional more trailing keys key_more blk t in
    let (s, behind, a, e) = arrow_read t r.7 (lay.sign mark.Open ∷ joined comma (pieces_of whole) ++ lay.sign mark.Close ∷ block_pieces blk) g ts rest k q d in
    let (mid, l, c) = listed_read (listed_of whole) (pieces_of whole) (all_go whole r h) g (block_pieces blk) ts (sign mark.Arrow s ∷ behind) a in
    grammar.function s l (blocked_read blk r.6 h.7 mid (sign mark.Arrow s ∷ behind) c) e
