pub mod NodesLemmas
