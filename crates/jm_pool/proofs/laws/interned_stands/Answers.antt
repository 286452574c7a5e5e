use Rattle.jm_pool.proofs.BuildingLaws.{interned_names, interned_begins, begins_keeps, interned_sound, named_index}
use Rattle.jm_pool.proofs.laws.interned_stands.Goals as goal

pub returns-clause-names : goal.returns-clause-names
returns-clause-names c = λ entries after k index h. interned_names entries k index after h

pub returns-clause-begins : goal.returns-clause-begins
returns-clause-begins c = λ entries after k index h. interned_begins entries k index after h

pub returns-clause-stays : goal.returns-clause-stays
returns-clause-stays c = λ earlier later i e b h. begins_keeps earlier later b i e h

pub returns-clause-sound : goal.returns-clause-sound
returns-clause-sound c = λ entries after k index s stands h. interned_sound entries k index after s stands h

pub returns-clause-within : goal.returns-clause-within
returns-clause-within c = λ entries i e s h. named_index entries s i e h
