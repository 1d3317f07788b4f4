mod BagLemmas
